-- `fabric_cycle::pass_latency` meets its contract. The loop's invariant: the latency clocks of the first m masters are counted.
-- Assumes nothing.
use mathlib.Core.Path.{◌≡◌, refl, sym, ◌∙◌}
use Prim.Native.Nat.{◌<◌}
use native.Mathlib.Omega.{arith}
use Rattle.fabric_layout.proofs.MarkLaws.{marks_same, marks_then}
use Rattle.fabric_layout.proofs.StatePutLaws.{transfers_length, lates_length}
use Rattle.fabric_cycle.proofs.LatencyLaws.{counted_begin, counted_next, counted_idle, free_fits, finished_fits}
use Rattle.fabric_cycle.proofs.pass_latency.Goals.{In-loop-m}
use Rattle.fabric_cycle.proofs.pass_latency.Goals as goal

master_in : (c : In-loop-m) → c.loop-m.m < 8
master_in c = c.loop-m-test.true

pub returns-then-late_clocks-eq0 : goal.returns-then-late_clocks-eq0
returns-then-late_clocks-eq0 c = (
  counted_idle _ (transfers_length _) (lates_length _) (sym c.late_clocks.ensures ∙ c.if-late_clocks-eq0.true),
  marks_same _,
)

pub loop-m-init : goal.loop-m-init
loop-m-init c = (counted_begin _ (transfers_length _) (lates_length _), marks_same _)

pub overflow_add-free : goal.overflow_add-free
overflow_add-free c =
    omega (
      arith,
      free_fits _ c.loop-m.invariant.0 (master_in (goal.at.overflow_add-free c).In-loop-m) c.late_at-late.ensures
          c.weight_of-free.ensures refl,
    )

pub overflow_add-finished : goal.overflow_add-finished
overflow_add-finished c =
    omega (
      arith,
      finished_fits _ c.loop-m.invariant.0 (master_in (goal.at.overflow_add-finished c).In-loop-m) c.late_at-late.ensures
          refl c.weight_of-finished.ensures,
    )

pub loop-m-preserved : goal.loop-m-preserved
loop-m-preserved c = (
  counted_next _ c.loop-m.invariant.0 (master_in (goal.at.loop-m-preserved c).In-loop-m) c.late_at-late.ensures
      c.weight_of-free.ensures c.weight_of-finished.ensures c.count_late.ensures.state,
  marks_then c.loop-m.invariant.1 c.count_late.ensures.marks,
)

pub returns : goal.returns
returns c =
    let i = c.loop-m.invariant in
    let e : c.loop-m.m ≡ 8 = omega (arith, c.loop-m-test.false, c.loop-m.auto.m-end) in
    (rw e at i.0, i.1)
