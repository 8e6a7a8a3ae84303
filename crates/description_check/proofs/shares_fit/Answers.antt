-- `description_check::shares_fit` meets its contract. One row more.
-- Assumes nothing.
use borrow.Author.Count.{below_more}
use Rattle.description_check.proofs.shares_fit.Goals as goal

pub loop-m-preserved : goal.loop-m-preserved
loop-m-preserved c =
    record { row = below_more _ _ c.loop-m.invariant.row (c.row_passes.ensures c.if-not-row_passes.false) }
