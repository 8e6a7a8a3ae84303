-- `description_check::natives_fit` meets its contract. The loop's invariant: no slave passed has a master that is too narrow.
-- Assumes nothing.
use Rattle.description_check.specs.Code.Accept.{NativesFit}
use Rattle.description_layout.specs.Layout.{board_in}
use Rattle.description_check.proofs.natives_fit.Given as goal

abbrev pub invariant-loop-i : goal.invariant-loop-i
invariant-loop-i l = NativesFit (board_in l.board) l.i l.masters
