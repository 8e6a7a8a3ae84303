-- `fabric_layout::entry_at` meets its contract: the three numbers are read field by field.
-- Assumes nothing.
use borrow.Author.Rules.{rules}
use Rattle.fabric_layout.proofs.LogPutLaws.{entry_read}
use Rattle.fabric_layout.proofs.entry_at.Goals as goal

pub returns : goal.returns
returns c = entry_read _ _ (search rules)
