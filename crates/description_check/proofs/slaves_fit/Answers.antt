-- `description_check::slaves_fit` meets its contract. One slave more.
-- Assumes nothing.
use native.Mathlib.Omega.{arith}
use Rattle.description_check.proofs.AcceptLaws.{so_far_start, so_far_next}
use Rattle.description_check.proofs.slaves_fit.Goals as goal

pub loop-i-init : goal.loop-i-init
loop-i-init c = so_far_start _

pub loop-i-preserved : goal.loop-i-preserved
loop-i-preserved c =
    so_far_next _ _ _ _ _ _ _ _ c.slave_at-s.ensures c.from-span.ensures c.loop-i.invariant
    (record {
      fits = c.slave_fits.ensures c.if-not-slave_fits.false;
      small = omega arith;
      clear = c.clear_of.ensures c.if-not-clear_of.false;
      behind = (omega arith, omega arith);
    })
