-- `description_check::shares_fit` meets its contract. The loop's invariant: the shares of each master passed are legal.
-- Assumes nothing.
use Rattle.description_check.specs.Code.Accept.{SharesFit}
use Rattle.description_layout.specs.Layout.{board_in}
use Rattle.description_check.proofs.shares_fit.Given as goal

abbrev pub invariant-loop-m : goal.invariant-loop-m
invariant-loop-m l = SharesFit (board_in l.board).shares l.masters l.slaves l.m
