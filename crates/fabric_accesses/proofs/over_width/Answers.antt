-- `fabric_accesses::over_width` meets its contract.
-- Assumes nothing.
use Rattle.fabric_transfer.proofs.PowerLaws.{over_width}
use Rattle.fabric_transfer.proofs.AccessLaws.{width_pos}
use Rattle.fabric_accesses.proofs.over_width.Goals as goal

pub overflow_sub-width : goal.overflow_sub-width
overflow_sub-width c = width_pos _ c.requires

pub returns : goal.returns
returns c = rw c.from.ensures (over_width _ _ c.requires)
