-- `description_check::row_fits` meets its contract. One share more.
-- Assumes nothing.
use Rattle.description_check.proofs.AcceptLaws.{row_next}
use Rattle.description_check.proofs.row_fits.Goals as goal

pub loop-s-preserved : goal.loop-s-preserved
loop-s-preserved c = row_next _ _ _ _ _ _ _ c.shares_at-x.ensures c.share_limit.ensures c.loop-s.invariant
