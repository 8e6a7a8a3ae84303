-- `fabric_layout::put_entry` meets its contract: three stores, and no other record has a number there.
-- Assumes nothing.
use borrow.Author.Rules.{rules}
use Rattle.fabric_layout.proofs.MarkLaws.{entry_leaves}
use Rattle.fabric_layout.proofs.put_entry.Goals as goal

pub returns : goal.returns
returns c = entry_leaves _ (search rules) _ _ (search rules) c.mark_of.ensures
