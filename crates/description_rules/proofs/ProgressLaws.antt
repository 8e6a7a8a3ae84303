-- A progress, by its number, is the reading of what was answered.
-- Assumes nothing.
use Rattle.std.proofs.Common.{◌≡◌, ℕ, List, Result, Ok, Err, replicate, refl, ap, sym, ◌∙◌}
use Rattle.std.specs.Result.{result_unwrap_or}
use Rattle.common_numbers.specs.declared.Refusal.{Refusal}
use Rattle.common_numbers.specs.Refusals.{refusal_in}
use Rattle.description_board.specs.declared.Item.{Item}
use Rattle.description_board.specs.Rules.{start, step, finish}
use Rattle.description_board.proofs.StepAllLaws.{step_stays, finish_stays}
use Rattle.description_layout.specs.Layout.{board_length}
use Rattle.description_rules.specs.declared.Progress.{Progress}
use Rattle.description_rules.specs.Code.Readings.{reading_of, progress_in}
use Rattle.description_rules.proofs.ReadingLaws as reading

-- an answer by its number and its rank
pub told_is : (r : Result ℕ Refusal) (l : List ℕ) {n above : ℕ} → n ≡ refusal_in r → above ≡ result_unwrap_or r 0
    → progress_in (record { number = n; above = above }) l ≡ reading_of r l
unfolding progress_in reading_of
told_is (Ok rank) l e f = rw (e, f) refl
told_is (Err refusal) l e f = rw (e, f) refl

-- before the first line
pub of_start : progress_in (record { number = 0; above = 0 }) (replicate board_length 0) ≡ start
unfolding progress_in reading_of
of_start = reading.of_start refl

module _ (p : Progress) (l m : List ℕ) (none : p.number ≡ 0) where
  -- a progress of number 0 is what was accepted
  accepted : reading_of (Ok p.above) l ≡ progress_in p l
  unfolding reading_of progress_in
  accepted = rw none refl

  pub passed_steps : (x : Item) (q : Progress) (r : Result ℕ Refusal) → reading_of r m ≡ step (reading_of (Ok p.above) l) x
      → progress_in q m ≡ reading_of r m → progress_in q m ≡ step (progress_in p l) x
  passed_steps x q r h e = e ∙ h ∙ ap (λ y. step y x) accepted

  pub passed_finishes : (q : Progress) (r : Result ℕ Refusal) → reading_of r m ≡ finish (reading_of (Ok p.above) l)
      → progress_in q m ≡ reading_of r m → progress_in q m ≡ finish (progress_in p l)
  passed_finishes q r h e = e ∙ h ∙ ap finish accepted

-- another number stays
module _ (p : Progress) (l : List ℕ) (some : p.number ≡ 0 → ⊥) where
  pub stopped_steps : (x : Item) → progress_in p l ≡ step (progress_in p l) x
  unfolding progress_in
  stopped_steps x = sym (step_stays (progress_in p l) x some)

  pub stopped_finishes : progress_in p l ≡ finish (progress_in p l)
  unfolding progress_in
  stopped_finishes = sym (finish_stays (progress_in p l) some)
