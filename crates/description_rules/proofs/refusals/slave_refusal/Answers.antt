-- `description_rules::refusals::slave_refusal` meets its contract. Each way out answers the definition's tests in their order.
-- Assumes nothing.
use mathlib.Core.Path.{◌∙◌, sym, ◌≡◌}
use mathlib.Core.Bool.{cond, not}
use Prim.Native.Nat.{◌<◌, ◌+◌, ◌%◌}
use native.Mathlib.Omega.{arith}
use lib.ListN.{take}
use lib.Dec.{ltb, eqb}
use borrow.Author.Tests.{eq-eqb, ne_eqb, le-ltb, lt-ltb, leb-false}
use Rattle.common_laws.proofs.Tests.{neither}
use Rattle.description_board.proofs.RuleLaws.{Values, values_fit}
use Rattle.description_board.specs.Rules.{overlaps, slave_refusal}
use Rattle.description_board.specs.Records.{total_span}
use Rattle.description_layout.specs.Layout.{board_in}
use Rattle.description_rules.proofs.refusals.slave_refusal.Goals.{After-overlaps, Else-masters-sharing, Else-not-slave_values, Else-overlaps}
use Rattle.description_rules.proofs.refusals.slave_refusal.Goals as goal

-- the number of slaves, and the values, once they passed their tests
room : (c : Else-masters-sharing) → (board_in c.args.board.now).slave_count < 16
room c =
    let masters = c.master_count-masters.result in
    let slaves = c.slave_count-slaves.result in
    let order = neither (eqb masters 0) _ c.if-masters-sharing.false in
    let above = neither c.args.sharing _ order.1 in
    let l : slaves < 16 = leb-false 16 slaves (neither c.default_at-after.result _ above.1).1 in
    omega (arith, c.slave_count-slaves.ensures)

fits : (c : Else-not-slave_values) → Values c.args.n
fits c = values_fit _ (sym c.slave_values.ensures ∙ c.if-not-slave_values.false)

-- what is left of the definition after the values, and after the overlap
legal : (c : Else-not-slave_values) → let a = c.args in
    let b = board_in a.board.now in
    let earlier = take b.slave_count b.slaves in
    slave_refusal b a.sharing a.n
    ≡ cond (not (eqb (a.n.base % a.n.span) 0)) 4
    (cond (overlaps a.n.base a.n.span earlier) 5 (cond (ltb 65536 (total_span earlier + a.n.span)) 6 0))
unfolding slave_refusal
legal c =
    let e = c.if-masters-sharing.false in
    rw (
      ← c.master_count-masters.ensures,
      ← c.slave_count-slaves.ensures,
      ← c.default_at-after.ensures,
      e,
      ← c.slave_values.ensures,
      c.if-not-slave_values.false,
    )

aligned : (c : After-overlaps) →
    let a = c.args in
    let b = board_in a.board.now in
    slave_refusal b a.sharing a.n
    ≡ cond c.overlaps.result 5 (cond (ltb 65536 (total_span (take b.slave_count b.slaves) + a.n.span)) 6 0)
aligned c =
    rw (
      legal c.before.before.before.before.before,
      eq-eqb _ _ c.if-n-ne0.false,
      ← c.slave_count-slaves.ensures,
      ← c.overlaps.ensures,
    )

apart : (c : Else-overlaps) →
    let a = c.args in
    let b = board_in a.board.now in
    slave_refusal b a.sharing a.n
    ≡ cond (ltb 65536 (total_span (take b.slave_count b.slaves) + a.n.span)) 6 0
apart c = rw (aligned c.before, c.if-overlaps.false)

pub returns-then-masters-sharing : goal.returns-then-masters-sharing
unfolding slave_refusal
returns-then-masters-sharing c =
    rw (
      ← c.master_count-masters.ensures,
      ← c.slave_count-slaves.ensures,
      ← c.default_at-after.ensures,
      c.if-masters-sharing.true,
    )

pub returns-then-not-slave_values : goal.returns-then-not-slave_values
unfolding slave_refusal
returns-then-not-slave_values c =
    rw (
      ← c.master_count-masters.ensures,
      ← c.slave_count-slaves.ensures,
      ← c.default_at-after.ensures,
      c.if-masters-sharing.false,
      ← c.slave_values.ensures,
      c.if-not-slave_values.true,
    )

pub returns-then-n-ne0 : goal.returns-then-n-ne0
returns-then-n-ne0 c =
    rw (legal (goal.at.returns-then-n-ne0 c).Else-not-slave_values, ne_eqb _ _ c.if-n-ne0.true)

pub overflow_cast-n : goal.overflow_cast-n
overflow_cast-n c = let v = fits (goal.at.overflow_cast-n c).Else-not-slave_values in omega arith

pub overflow_cast-n-2 : goal.overflow_cast-n-2
overflow_cast-n-2 c = let v = fits (goal.at.overflow_cast-n-2 c).Else-not-slave_values in omega arith

pub overlaps-requires : goal.overlaps-requires
overlaps-requires c = let l = room (goal.at.overlaps-requires c).Else-masters-sharing in omega arith

pub returns-then-overlaps : goal.returns-then-overlaps
returns-then-overlaps c = rw (aligned (goal.at.returns-then-overlaps c).After-overlaps, c.if-overlaps.true)

pub overflow_cast-n-3 : goal.overflow_cast-n-3
overflow_cast-n-3 c = let v = fits (goal.at.overflow_cast-n-3 c).Else-not-slave_values in omega arith

pub total_span-requires : goal.total_span-requires
total_span-requires c = let l = room (goal.at.total_span-requires c).Else-masters-sharing in omega arith

pub returns-then-total_span-gt-MEMORY_BYTES : goal.returns-then-total_span-gt-MEMORY_BYTES
returns-then-total_span-gt-MEMORY_BYTES c =
    let count = c.slave_count-slaves in
    rw (apart (goal.at.returns-then-total_span-gt-MEMORY_BYTES c).Else-overlaps, ← count.ensures, ← c.total_span.ensures, lt-ltb _ _ c.if-total_span-gt-MEMORY_BYTES.true)

pub returns : goal.returns
returns c =
    let count = c.slave_count-slaves in
    rw (apart (goal.at.returns c).Else-overlaps, ← count.ensures, ← c.total_span.ensures, le-ltb _ _ c.if-total_span-gt-MEMORY_BYTES.false)

pub nonzero_rem-n : goal.nonzero_rem-n
nonzero_rem-n c =
    let v : Values c.args.n = fits (goal.at.nonzero_rem-n c).Else-not-slave_values in omega arith
