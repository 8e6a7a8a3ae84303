-- `description_check::narrowest` meets its contract. The loop's invariant: no master passed is narrower.
-- Assumes nothing.
use Rattle.description_check.specs.Code.Accept.{Narrowest}
use Rattle.description_layout.specs.Layout.{board_in}
use Rattle.description_check.proofs.narrowest.Given as goal

abbrev pub invariant-loop-i : goal.invariant-loop-i
invariant-loop-i l = Narrowest (board_in l.board).masters l.i l.least
