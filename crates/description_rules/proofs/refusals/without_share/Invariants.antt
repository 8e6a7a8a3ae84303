-- `description_rules::refusals::without_share` meets its contract.
-- The loop's invariant: the answer is the first master from m on that has no share line.
-- Assumes nothing.
use mathlib.Core.Bool.{not}
use mathlib.Core.Path.{◌≡◌}
use Prim.Native.Nat.{ℕ, ◌≤◌, ◌-◌}
use Rattle.common_laws.specs.Lists.{first_from}
use Rattle.description_board.specs.declared.Board.{Board}
use Rattle.description_board.specs.Rules.{has_share, without_share}
use Rattle.description_layout.specs.Layout.{board_in}
use Rattle.description_rules.proofs.refusals.without_share.Given as goal

-- the first master without a share line of those from m on
abbrev pub from : Board → ℕ → ℕ
from b m = first_from (λ k. not (has_share b k)) m (b.master_count - m)

abbrev pub invariant-loop-m : goal.invariant-loop-m
invariant-loop-m l =
    let b = board_in l.board in (l.m ≤ b.master_count) × (without_share b ≡ from b l.m)
