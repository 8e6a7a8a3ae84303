-- `fabric_layout::beats_at` meets its contract.
-- Assumes nothing.
use borrow.Author.Rules.{rules}
use Rattle.fabric_layout.proofs.RecordLaws.{beats_read}
use Rattle.fabric_layout.proofs.beats_at.Goals as goal

pub returns : goal.returns
returns c = beats_read _ _ (search rules)
