-- `fabric_layout::move_entry` meets its contract: three numbers, as they stand, to the entry before.
-- Assumes nothing.
use borrow.Author.Rules.{rules}
use Rattle.fabric_layout.proofs.NumbersLaws.{moved_leaves}
use Rattle.fabric_layout.proofs.move_entry.Goals as goal

pub returns : goal.returns
returns c = moved_leaves _ _ (search rules) (search rules)
