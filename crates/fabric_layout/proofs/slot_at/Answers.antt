-- `fabric_layout::slot_at` meets its contract: the five numbers are read field by field.
-- Assumes nothing.
use borrow.Author.Rules.{rules}
use Rattle.fabric_layout.proofs.RecordLaws.{slot_read}
use Rattle.fabric_layout.proofs.slot_at.Goals as goal

pub returns : goal.returns
returns c = slot_read _ _ (search rules)
