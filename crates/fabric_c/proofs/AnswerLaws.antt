-- The value of an answer, or else zeros, as the code takes it.
-- Assumes nothing.
use Rattle.std.proofs.Common.{◌≡◌, Result, Ok, Err, refl}
use Rattle.std.specs.Result.{result_unwrap_or}
use Rattle.common_numbers.specs.Refusals.{answer_or}
use Rattle.common_numbers.specs.declared.Refusal.{Refusal}

pub unwrap_is : {A : Type 0} (zero : A) (r : Result A Refusal) → result_unwrap_or r zero ≡ answer_or zero r
unwrap_is zero (Ok x) = refl
unwrap_is zero (Err e) = refl
