-- `fabric_grant::slot_asked` meets its contract: a slave that serves, and one that does not.
-- Assumes nothing.
use Rattle.fabric_grant.proofs.AskingLaws.{asked_serving, asked_free}
use Rattle.fabric_grant.proofs.slot_asked.Goals as goal

pub returns-then-slot : goal.returns-then-slot
returns-then-slot c = asked_serving _ _ _ _ c.slot_at-slot.ensures c.if-slot.true

pub returns : goal.returns
returns c =
    asked_free _ _ _ _ c.slot_at-slot.ensures c.if-slot.false c.arbiter_of.ensures
    c.arbitrate-grant.ensures c.slot_by.ensures
