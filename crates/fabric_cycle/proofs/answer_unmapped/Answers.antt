-- `fabric_cycle::answer_unmapped` meets its contract. The loop's invariant: the unmapped transfers of the first m masters are answered.
-- Assumes nothing.
use mathlib.Core.Path.{◌≡◌, ap, ◌∙◌}
use mathlib.Core.Bool.{true}
use native.Mathlib.Omega.{arith}
use borrow.Author.Tests.{eq-eqb, ne_eqb}
use Rattle.common_laws.specs.Bits.{bit}
use Rattle.fabric_layout.specs.Layout.{state_in}
use Rattle.fabric_layout.proofs.MarkLaws.{marks_same, marks_then}
use Rattle.fabric_layout.proofs.StatePutLaws.{transfers_length}
use Rattle.fabric_cycle.proofs.UnmappedLaws.{answered_begin, answered_next, answered_skip, answered_length}
use Rattle.fabric_cycle.proofs.UnmappedLaws.{answer_count, answer_room, answer_fits}
use Rattle.fabric_cycle.proofs.answer_unmapped.Goals.{Then-mask-m-eq1, then-mask-m-eq1, else-mask-m-eq1}
use Rattle.fabric_cycle.proofs.answer_unmapped.Goals as goal

-- the bit that was tested
on : (c : Then-mask-m-eq1) → bit c.args.mask c.loop-m.m ≡ true
unfolding bit
on c = eq-eqb _ 1 c.if-mask-m-eq1.true

pub loop-m-init : goal.loop-m-init
loop-m-init c = (answered_begin _ _ _ (transfers_length _) _, marks_same _)

pub answer_at-requires : goal.answer_at-requires
answer_at-requires c = (
  c.loop-m-test.true,
  answer_count _ _ _ c.loop-m.invariant.0 c.loop-m-test.true c.requires.count,
  answer_room _ _ _ c.loop-m.invariant.0 c.loop-m-test.true c.requires.room,
  answer_fits _ _ _ c.loop-m.invariant.0 c.loop-m-test.true
      (c.requires.fits _ c.loop-m-test.true (on (goal.at.answer_at-requires c).Then-mask-m-eq1)),
)

pub loop-m-preserved : goal.loop-m-preserved
unfolding bit
loop-m-preserved c = (
  elim c.if-mask-m-eq1.branch [
    | then-mask-m-eq1 w ↦
        answered_next _ _ _ c.loop-m.invariant.0 c.loop-m-test.true (eq-eqb _ 1 w.if-mask-m-eq1.true)
        (ap state_in w.st-is ∙ w.answer_at.ensures.0.state) (w.buffer-is ∙ w.answer_at.ensures.1)
    | else-mask-m-eq1 w ↦
        rw (w.st-is, w.buffer-is)
        (answered_skip _ _ _ c.loop-m.invariant.0 c.loop-m-test.true (ne_eqb _ 1 w.if-mask-m-eq1.false))
  ],
  elim c.if-mask-m-eq1.branch [
    | then-mask-m-eq1 w ↦ rw w.st-is (marks_then c.loop-m.invariant.1 w.answer_at.ensures.0.marks)
    | else-mask-m-eq1 w ↦ rw w.st-is c.loop-m.invariant.1
  ],
)

pub shape_of-buffer : goal.shape_of-buffer
shape_of-buffer c = answered_length _ _ _ c.loop-m.invariant.0

pub returns : goal.returns
returns c =
    let i = c.loop-m.invariant in
    let e : c.loop-m.m ≡ 8 = omega (arith, c.loop-m-test.false, c.loop-m.auto.m-end) in
    (rw e at i.0, i.1)
