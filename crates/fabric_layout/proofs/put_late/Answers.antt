-- `fabric_layout::put_late` meets its contract: one store, and no other record has a number there.
-- Assumes nothing.
use borrow.Author.Rules.{rules}
use Rattle.fabric_layout.proofs.MarkLaws.{late_leaves}
use Rattle.fabric_layout.proofs.put_late.Goals as goal

pub returns : goal.returns
returns c = late_leaves _ (search rules) _ _ (search rules)
