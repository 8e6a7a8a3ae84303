-- `fabric_layout::transfer_at` meets its contract: the five numbers are read field by field.
-- Assumes nothing.
use borrow.Author.Rules.{rules}
use Rattle.fabric_layout.proofs.RecordLaws.{transfer_read}
use Rattle.fabric_layout.proofs.transfer_at.Goals as goal

pub returns : goal.returns
returns c = transfer_read _ _ (search rules)
