-- `fabric_layout::put_line` meets its contract: six stores, and no other line has a number there.
-- Assumes nothing.
use borrow.Author.Rules.{rules}
use Rattle.fabric_layout.proofs.RecordLaws.{line_put}
use Rattle.fabric_layout.proofs.put_line.Goals as goal

pub returns : goal.returns
returns c = line_put _ (search rules) _ _ (search rules)
