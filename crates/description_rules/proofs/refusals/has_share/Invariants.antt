-- `description_rules::refusals::has_share` meets its contract. The loop's invariant: no slave passed is connected.
-- Assumes nothing.
use mathlib.Core.Path.{◌≡◌}
use mathlib.Core.Bool.{false}
use Prim.Native.Nat.{ℕ, ◌<◌}
use Rattle.description_board.specs.Records.{connected}
use Rattle.description_layout.specs.Layout.{board_in}
use Rattle.description_rules.proofs.refusals.has_share.Given as goal

abbrev pub invariant-loop-s : goal.invariant-loop-s
invariant-loop-s l =
    (k : ℕ) → k < l.s → connected (board_in l.board) l.m k ≡ false
