-- A clock's refusals in their order.
-- Assumes nothing.
use mathlib.Core.Path.{◌≡◌, refl, ◌∙◌}
use mathlib.Core.Bool.{Bool, true, false, cond, not, ◌||◌}
use mathlib.Core.List.{List}
use Prim.Native.Nat.{ℕ}
use lib.Dec.{eqb}
use lib.ListN.{length, replicate}
use borrow.Author.Tests.{eq-eqb, ne_eqb, eqb-true, not-false}
use Rattle.common_laws.proofs.Tests.{neither, passed}
use Rattle.description_board.specs.declared.Board.{Board}
use Rattle.description_board.specs.Records.{memory_length}
use Rattle.description_board.specs.Items.{board_refusal}
use Rattle.fabric_transfer.specs.Bytes.{Store, buffer_length}
use Rattle.fabric_state.specs.declared.State.{State}
use Rattle.fabric_state.specs.Records.{no_line}
use Rattle.fabric_state.specs.Soundness.{sound}
use Rattle.fabric_layout.specs.Layout.{state_in, lines_in}
use Rattle.fabric_layout.proofs.MarkLaws.{marks_same}
use Rattle.fabric_calls.specs.Calls.{clock_refusal, clock, store_after_clock}
use Rattle.fabric_calls.specs.Code.Refusals.{clock_refusal_by}
use Rattle.fabric_calls.specs.Lent.{Clocks}
use Rattle.fabric_calls.proofs.PostLaws.{passed_number}

module _ (b : Board) (st : State) (d : Store) where
  -- a board that is refused is refused first
  pub board_first : (board_refusal b ≡ 0 → ⊥) → clock_refusal b st d ≡ board_refusal b
  unfolding clock_refusal
  board_first h = rw (ne_eqb (board_refusal b) 0 h)

  -- what the check of board and state found says all of it: a state is looked at on an accepted board only
  pub refusal_found : (number : ℕ) (keeps : Bool) → number ≡ board_refusal b → (board_refusal b ≡ 0 → keeps ≡ sound b st)
      → clock_refusal_by number (memory_length b) keeps (length d.memory) (length d.buffer) ≡ clock_refusal b st d
  unfolding clock_refusal clock_refusal_by
  refusal_found number keeps e f = rw e (go (eqb (board_refusal b) 0) refl)
    where
      rest : Bool → ℕ
      rest c =
          cond (not (eqb (length d.memory) (memory_length b)) || not (eqb (length d.buffer) buffer_length)) 8
          (cond (not c) 9 0)

      go : (c : Bool) → eqb (board_refusal b) 0 ≡ c
          → cond (not (eqb (board_refusal b) 0)) (board_refusal b) (rest keeps)
          ≡ cond (not (eqb (board_refusal b) 0)) (board_refusal b) (rest (sound b st))
      go true z = rw (f (eqb-true (board_refusal b) 0 z))
      go false z = rw z

  pub not_refused : board_refusal b ≡ 0 → length d.memory ≡ memory_length b → length d.buffer ≡ buffer_length
      → sound b st ≡ true → clock_refusal b st d ≡ 0
  unfolding clock_refusal
  not_refused ok m f h =
      rw (
        eq-eqb (board_refusal b) 0 ok,
        eq-eqb (length d.memory) (memory_length b) m,
        eq-eqb (length d.buffer) buffer_length f,
        h,
      )

  -- a clock that is not refused was lent the exact lengths
  pub exact_lengths : clock_refusal b st d ≡ 0 → (length d.memory ≡ memory_length b) × (length d.buffer ≡ buffer_length)
  unfolding clock_refusal
  exact_lengths e =
      let memory = eqb (length d.memory) (memory_length b) in
      let buffer = eqb (length d.buffer) buffer_length in
      let p = passed_number (board_refusal b) _ e in
      let q = passed (not memory || not buffer) 7 _ p.1 in
      let r = neither (not memory) (not buffer) q.0 in (
        eqb-true (length d.memory) (memory_length b) (not-false memory r.0),
        eqb-true (length d.buffer) buffer_length (not-false buffer r.1),
      )

-- what a clock answers and leaves where it is refused
module _ (b : Board) (before responses lines : List ℕ) (d : Store) where
  pub clock_refused : {n : ℕ} → n ≡ clock_refusal b (state_in before) d → (n ≡ 0 → ⊥) → responses ≡ replicate 8 0
      → lines_in lines ≡ replicate 16 no_line → Clocks b before before responses lines d d n 0
  unfolding clock store_after_clock
  clock_refused {n} e h r q =
      let no = ne_eqb (clock_refusal b (state_in before) d) 0 (λ z. h (e ∙ z)) in
      record { answer = rw (no, e, r, q); stored = rw no; marks = marks_same before; kept = λ _. refl }
