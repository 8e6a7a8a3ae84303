-- `description_check::row_empty` meets its contract. One share more.
-- Assumes nothing.
use Rattle.description_check.proofs.AcceptLaws.{row_empty_next}
use Rattle.description_check.proofs.row_empty.Goals as goal

pub loop-s-preserved : goal.loop-s-preserved
loop-s-preserved c = row_empty_next _ _ _ _ _ c.shares_at-x.ensures c.loop-s.invariant
