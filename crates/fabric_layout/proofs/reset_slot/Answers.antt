-- `fabric_layout::reset_slot` meets its contract.
-- Assumes nothing.
use Rattle.fabric_layout.proofs.StatePutLaws.{fresh_owned, fresh_none}
use Rattle.fabric_layout.proofs.reset_slot.Goals as goal

pub returns-then-s-n : goal.returns-then-s-n
returns-then-s-n c = fresh_owned _ _ _ c.if-s-n.true

pub returns-else-s-n : goal.returns-else-s-n
returns-else-s-n c = fresh_none _ _ _ c.if-s-n.false
