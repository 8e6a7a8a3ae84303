-- `wait_table::add_turns` meets its contract. The loop's invariant: the array holds the turns of the first s slaves.
-- Assumes nothing.
use mathlib.Core.Path.{◌≡◌}
use lib.ListN.{length}
use Rattle.description_layout.specs.Layout.{board_in}
use Rattle.wait_table.specs.Code.PairLines.{Summed}
use Rattle.wait_table.proofs.add_turns.Given as goal

abbrev pub invariant-loop-s : goal.invariant-loop-s
invariant-loop-s l = (length l.turns ≡ 16) × Summed (board_in l.board) l.s l.turns
