-- `fabric_layout::late_at` meets its contract.
-- Assumes nothing.
use borrow.Author.Rules.{rules}
use Rattle.fabric_layout.proofs.RecordLaws.{late_read}
use Rattle.fabric_layout.proofs.late_at.Goals as goal

pub returns : goal.returns
returns c = late_read _ _ (search rules)
