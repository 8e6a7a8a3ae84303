-- A clock's responses by the mask of who holds an unmapped transfer (rules 4.13, 4.17).
-- Assumes nothing.
use mathlib.Core.Path.{◌≡◌, refl, sym, ap, ◌∙◌}
use mathlib.Core.Bool.{Bool, true, false, cond, false≢true}
use mathlib.Core.List.{List}
use Prim.Native.Nat.{ℕ, ◌<◌}
use native.Mathlib.Omega.{arith}
use lib.ListN.{replicate}
use Rattle.common_laws.specs.Bits.{bit}
use Rattle.common_laws.proofs.TableLaws.{bit_mask}
use Rattle.common_laws.proofs.BitLaws.{bit_above}
use Rattle.common_laws.proofs.FrontLaws.{table_same}
use Rattle.description_board.specs.declared.Board.{Board}
use Rattle.fabric_state.specs.declared.State.{State}
use Rattle.fabric_state.specs.Soundness.{unmapped_at}
use Rattle.fabric_state.specs.Control.{finished, mask_of, response_of, responses_of}
use Rattle.fabric_state.proofs.StateLaws.{mask_bit, finished_unmapped}
use Rattle.fabric_layout.specs.Code.Puts.{responses_for}
use Rattle.fabric_layout.proofs.LogPutLaws.{responses_none}
use Rattle.fabric_check.specs.Code.Targets.{unmapped_mask}

module _ (b : Board) (st : State) where
  pub responses_are : {mask : ℕ} {responses : List ℕ} → mask ≡ unmapped_mask b st → responses ≡ responses_for mask
      → responses ≡ responses_of b st
  unfolding responses_for responses_of response_of unmapped_mask
  responses_are e f =
      f ∙ rw e
      (table_same _ _ 8 (λ m h. ap (λ (c : Bool). cond {A = ℕ} c 3 0) (bit_mask (unmapped_at b st) 8 m h)))

  -- a clock that finishes no master answers 0 to each
  unmapped_not : mask_of b st ≡ 0 → (m : ℕ) → m < 8 → unmapped_at b st m ≡ false
  unmapped_not e m h = go (unmapped_at b st m) (finished_unmapped b st m)
    where
      none : finished b st m ≡ false
      none = sym (mask_bit b st m h) ∙ ap (λ (x : ℕ). bit x m) e ∙ bit_above 0 0 m (omega arith) (omega arith)

      go : (c : Bool) → (c ≡ true → finished b st m ≡ true) → c ≡ false
      go true f = absurd (false≢true (sym none ∙ f refl))
      go false f = refl

  pub responses_zero : mask_of b st ≡ 0 → responses_of b st ≡ replicate 8 0
  unfolding responses_of response_of responses_for
  responses_zero e =
      table_same _ _ 8 (λ m h. rw (unmapped_not e m h, bit_above 0 0 m (omega arith) (omega arith))) ∙ responses_none
