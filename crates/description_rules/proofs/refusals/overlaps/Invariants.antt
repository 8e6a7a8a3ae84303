-- `description_rules::refusals::overlaps` meets its contract. The loop's invariant: an overlap is one with a slave that is left.
-- Assumes nothing.
use mathlib.Core.Path.{◌≡◌}
use Prim.Native.Nat.{◌≤◌}
use lib.ListN.{drop, take}
use Rattle.description_board.specs.Rules.{overlaps}
use Rattle.description_layout.specs.Layout.{board_in}
use Rattle.description_rules.proofs.refusals.overlaps.Given as goal

abbrev pub invariant-loop-i : goal.invariant-loop-i
invariant-loop-i l =
    let slaves = (board_in l.board).slaves in
    (l.i ≤ l.n) × (overlaps l.base l.span (take l.n slaves) ≡ overlaps l.base l.span (drop l.i (take l.n slaves)))
