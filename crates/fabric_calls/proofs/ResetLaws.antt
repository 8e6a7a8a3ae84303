-- What a reset answers and leaves.
-- Assumes nothing.
use mathlib.Core.Path.{◌≡◌, refl, sym, ap, ap₂, ◌∙◌}
use mathlib.Core.List.{List}
use Prim.Native.Nat.{ℕ, ◌-◌}
use Rattle.description_board.specs.declared.Board.{Board}
use Rattle.description_board.specs.Items.{board_refusal}
use Rattle.fabric_state.specs.Resetting.{state_at_reset, reset_state}
use Rattle.fabric_layout.specs.Layout.{state_in}
use Rattle.fabric_layout.specs.Numbers.{numbers_of_state}
use Rattle.fabric_calls.specs.Calls.{reset}
use Rattle.fabric_calls.specs.Lent.{Resets}

module _ (b : Board) (before : List ℕ) where
  pub reset_refused : {number : ℕ} → number ≡ board_refusal b → (number ≡ 0 → ⊥) → Resets b before before number
  unfolding reset
  reset_refused e h = record { answer = e; state = λ z. absurd (h z); numbers = λ z. absurd (h z); kept = λ _. refl }

  -- by the counts that were read
  pub reset_taken : (after : List ℕ) {masters slaves : ℕ} → board_refusal b ≡ 0 → masters ≡ b.master_count
      → slaves ≡ b.slave_count
      → (state_in after ≡ reset_state (masters - 1) slaves) × (after ≡ numbers_of_state (reset_state (masters - 1) slaves))
      → Resets b before after 0
  unfolding reset state_at_reset
  reset_taken after {masters} {slaves} z e f q =
      let is : reset_state (masters - 1) slaves ≡ (reset b).state = rw z (ap₂ (λ (m s : ℕ). reset_state (m - 1) s) e f) in
      record {
        answer = sym z;
        state = λ _. q.0 ∙ is;
        numbers = λ _. q.1 ∙ ap numbers_of_state is;
        kept = λ h. absurd (h refl);
      }
