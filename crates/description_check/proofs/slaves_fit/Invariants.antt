-- `description_check::slaves_fit` meets its contract. The loop's invariant: the slaves passed fit, and the last end, the
-- total and the natives' number are theirs.
-- Assumes nothing.
use Rattle.description_check.proofs.AcceptLaws.{SoFar}
use Rattle.description_layout.specs.Layout.{board_in}
use Rattle.description_check.proofs.slaves_fit.Given as goal

abbrev pub invariant-loop-i : goal.invariant-loop-i
invariant-loop-i l = SoFar (board_in l.board).slaves l.native l.last l.total l.i
