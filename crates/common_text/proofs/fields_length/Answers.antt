-- `common_text::fields_length` meets its contract. The loop's invariant: the sum is the length of the fields of the numbers passed,
-- at most 21 bytes to each. Assumes nothing.
use mathlib.Core.Path.{refl}
use native.Mathlib.Omega.{arith}
use lib.ListN.{get_or}
use Rattle.common_text.specs.Digits.{fields_text}
use Rattle.common_text.proofs.Decimal.{digits_long, fields_more_length}
use Rattle.common_text.proofs.fields_length.Goals as goal

pub loop-n-init : goal.loop-n-init
unfolding fields_text
loop-n-init c = (omega arith, refl)

pub overflow_add-sum : goal.overflow_add-sum
overflow_add-sum c = omega (arith, digits_long (get_or c.args.numbers.now c.loop-n.n-index 0))

pub overflow_add-sum-in-loop-n : goal.overflow_add-sum-in-loop-n
overflow_add-sum-in-loop-n c = omega (arith, digits_long (get_or c.args.numbers.now c.loop-n.n-index 0))

pub loop-n-preserved : goal.loop-n-preserved
loop-n-preserved c =
    let ns = c.args.numbers.now in
    let i = c.loop-n.n-index in
    (omega (arith, digits_long (get_or ns i 0)), omega (arith, fields_more_length ns i (omega arith)))
