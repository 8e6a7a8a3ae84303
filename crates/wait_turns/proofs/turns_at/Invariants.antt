-- `wait_turns::turns_at` meets its contract. The loop's invariant: the sum is that of the first k masters, so at most k × 2 ^ 50.
-- Assumes nothing.
use mathlib.Core.Path.{◌≡◌}
use Rattle.common_laws.specs.Lists.{sum}
use Rattle.description_layout.specs.Layout.{board_in}
use Rattle.wait_turns.specs.Sums.{turn_at}
use Rattle.wait_turns.proofs.turns_at.Given as goal

abbrev pub invariant-loop-k : goal.invariant-loop-k
invariant-loop-k l = l.sum ≡ sum (turn_at (board_in l.board) l.at.single l.at.v l.at.s) l.k
