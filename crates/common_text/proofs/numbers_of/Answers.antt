-- `common_text::numbers_of` meets its contract. The loop's invariant: the numbers are those so far and then those of the rest's
-- fields. The measure is the length of the rest. Assumes nothing.
use mathlib.Core.Path.{refl, sym, ◌∙◌}
use native.Mathlib.Omega.{arith}
use lib.Dec.{lit≤}
use lib.ListN.{length-take, length-drop}
use Rattle.common_text.specs.Fields.{numbers_of, no_numbers, with_number}
use Rattle.common_text.proofs.Values.{numbers_full, numbers_malformed, numbers_last, numbers_more}
use Rattle.common_text.proofs.numbers_of.Goals as goal

pub loop-ns-init : goal.loop-ns-init
unfolding numbers_of no_numbers
loop-ns-init c = rw c.no_numbers-ns.ensures (omega arith, lit≤ tt, refl)

pub returns-then-ns-eq-FULL : goal.returns-then-ns-eq-FULL
returns-then-ns-eq-FULL c =
    let l = c.loop-ns in
    c.no_numbers.ensures
    ∙ sym (numbers_full _ l.ns l.rest.now _ l.invariant.2 c.find_byte-e.ensures c.if-ns-eq-FULL.true)

pub returns-in_default : goal.returns-in_default
returns-in_default c =
    let l = c.loop-ns in
    c.no_numbers-in_default.ensures
    ∙ sym
    (numbers_malformed _ l.ns l.rest.now _ l.invariant.2 c.find_byte-e.ensures c.if-ns-eq-FULL.false
    (sym c.number_of.ensures ∙ c.in_default.is))

pub returns-then-e-rest : goal.returns-then-e-rest
returns-then-e-rest c =
    let l = c.loop-ns in
    c.with_number-ns.ensures
    ∙ sym
    (numbers_last _ l.ns l.rest.now _ l.invariant.2 c.find_byte-e.ensures _ c.if-ns-eq-FULL.false
    (sym c.number_of.ensures ∙ c.in-Some.is) c.if-e-rest.true)

pub overflow_add-rest : goal.overflow_add-rest
overflow_add-rest c = omega (arith, c.find_byte-e.ensures.within)

pub loop-ns-preserved : goal.loop-ns-preserved
unfolding with_number
loop-ns-preserved c =
    let l = c.loop-ns in
    let w = c.find_byte-e.ensures.within in
    rw c.with_number-ns.ensures (
      simp (length-take, length-drop) (omega arith),
      omega arith,
      numbers_more _ l.ns l.rest.now _ l.invariant.2 c.find_byte-e.ensures _ c.if-ns-eq-FULL.false
          (sym c.number_of.ensures ∙ c.in-Some.is) (omega arith),
    )
