-- `fabric_layout::put_transfer` meets its contract: five stores, and no other record has a number there.
-- Assumes nothing.
use borrow.Author.Rules.{rules}
use Rattle.fabric_layout.proofs.MarkLaws.{transfer_leaves}
use Rattle.fabric_layout.proofs.put_transfer.Goals as goal

pub returns : goal.returns
returns c = transfer_leaves _ (search rules) _ _ (search rules) c.before.mark_of.ensures c.mark_of-2.ensures
