-- `fabric_cycle::clear_read` meets its contract.
-- Assumes nothing.
use mathlib.Core.Path.{refl}
use Rattle.fabric_cycle.proofs.UnmappedLaws.{clear_front}
use Rattle.fabric_cycle.proofs.clear_read.Goals as goal

pub returns : goal.returns
returns c = clear_front _ _ _ _ c.if-t.false c.master_at-ma.ensures refl c.clear_front.ensures
