-- `description_check::column_fits` meets its contract. The loop's invariant: if nothing bad was met, each master passed has
-- no share or is wide enough.
-- Assumes nothing.
use mathlib.Core.Path.{◌≡◌}
use mathlib.Core.Bool.{false}
use Rattle.description_check.specs.Code.Accept.{ColumnFits}
use Rattle.description_layout.specs.Layout.{board_in}
use Rattle.description_check.proofs.column_fits.Given as goal

abbrev pub invariant-loop-m : goal.invariant-loop-m
invariant-loop-m l = l.bad ≡ false → ColumnFits (board_in l.board) l.s l.width l.m
