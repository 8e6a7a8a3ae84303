-- `description_check::row_empty` meets its contract. The loop's invariant: if no bit of a share was met, each share passed is 0.
-- Assumes nothing.
use mathlib.Core.Path.{◌≡◌}
use Rattle.description_check.specs.Code.Accept.{RowEmpty}
use Rattle.description_layout.specs.Layout.{board_in}
use Rattle.description_check.proofs.row_empty.Given as goal

abbrev pub invariant-loop-s : goal.invariant-loop-s
invariant-loop-s l = l.used ≡ 0 → RowEmpty (board_in l.board).shares l.m l.s
