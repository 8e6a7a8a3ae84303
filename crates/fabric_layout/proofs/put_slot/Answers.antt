-- `fabric_layout::put_slot` meets its contract: five stores, and no other record has a number there.
-- Assumes nothing.
use borrow.Author.Rules.{rules}
use Rattle.fabric_layout.proofs.MarkLaws.{slot_leaves}
use Rattle.fabric_layout.proofs.put_slot.Goals as goal

pub returns : goal.returns
returns c = slot_leaves _ (search rules) _ _ (search rules) c.mark_of.ensures
