-- `common_text::number_of` meets its contract: each return by laws of a field's shape. Assumes nothing.
use mathlib.Core.Logic.{inl, inr}
use mathlib.Core.Path.{sym, ◌∙◌}
use native.Mathlib.Omega.{arith}
use Rattle.common_text.proofs.Values.{number_none, number_long, number_one, number_zero, number_more}
use Rattle.common_text.proofs.number_of.Goals as goal
use Rattle.common_text.proofs.number_of.Goals.{else-n-gt1-via-then-n-gt1+else-field-eq48, else-n-gt1-via-else-n-gt1}

pub returns-then-n-eq0 : goal.returns-then-n-eq0
returns-then-n-eq0 c =
    elim c.then-n-eq0.either [ inl none ↦ sym (number_none _ none) | inr long ↦ sym (number_long _ long.1) ]

pub returns-then-field-eq48 : goal.returns-then-field-eq48
returns-then-field-eq48 c = sym (number_zero _ c.if-n-gt1.true c.if-field-eq48.true)

pub returns : goal.returns
returns c =
    elim c.else-n-gt1.branch [
      | else-n-gt1-via-then-n-gt1+else-field-eq48 w ↦
          c.scan.ensures ∙ sym (number_more _ w.if-n-gt1.true (omega arith) w.if-field-eq48.false)
      | else-n-gt1-via-else-n-gt1 w ↦ c.scan.ensures ∙ sym (number_one _ (omega arith))
    ]
