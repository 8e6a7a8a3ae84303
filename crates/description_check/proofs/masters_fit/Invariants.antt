-- `description_check::masters_fit` meets its contract. The loop's invariant: each master passed is legal.
-- Assumes nothing.
use Rattle.description_check.specs.Code.Accept.{MastersFit}
use Rattle.description_layout.specs.Layout.{board_in}
use Rattle.description_check.proofs.masters_fit.Given as goal

abbrev pub invariant-loop-i : goal.invariant-loop-i
invariant-loop-i l = MastersFit (board_in l.board).masters l.i
