-- `description_rules::refusals::total_span` meets its contract.
-- The loop's invariant: the total so far and the spans that are left make the whole; the bound keeps the sum in a u64.
-- Assumes nothing.
use mathlib.Core.Path.{◌≡◌}
use Prim.Native.Nat.{◌≤◌, ◌+◌, ◌*◌}
use lib.ListN.{drop, take}
use Rattle.description_board.specs.Records.{total_span}
use Rattle.description_layout.specs.Layout.{board_in}
use Rattle.description_rules.proofs.refusals.total_span.Given as goal

abbrev pub invariant-loop-i : goal.invariant-loop-i
invariant-loop-i l =
    let slaves = (board_in l.board).slaves in
    (l.i ≤ l.n)
    × (l.total ≤ 4294967295 * (l.i + 1))
    × (total_span (take l.n slaves) + l.span ≡ l.total + total_span (drop l.i (take l.n slaves)))
