-- `description_check::row_fits` meets its contract. The loop's invariant: if nothing bad was met, each share passed is legal.
-- Assumes nothing.
use mathlib.Core.Path.{◌≡◌}
use mathlib.Core.Bool.{false}
use Rattle.description_check.specs.Code.Accept.{RowFits}
use Rattle.description_layout.specs.Layout.{board_in}
use Rattle.description_check.proofs.row_fits.Given as goal

abbrev pub invariant-loop-s : goal.invariant-loop-s
invariant-loop-s l = l.bad ≡ false → RowFits (board_in l.board).shares l.m l.n l.s
