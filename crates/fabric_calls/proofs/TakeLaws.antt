-- A take's refusals in their order, and what it answers and leaves, refused and not (rules 4.19, 7.22, 8.1).
-- Assumes nothing.
use mathlib.Core.Path.{◌≡◌, refl, sym, ap, ◌∙◌}
use mathlib.Core.Bool.{Bool, true, false, not}
use mathlib.Core.List.{List}
use mathlib.Core.Logic.{◌≢◌}
use Prim.Native.Nat.{ℕ}
use lib.Dec.{eqb}
use borrow.Author.Tests.{ne_eqb, eqb-true, eqb-false}
use Rattle.common_laws.proofs.Tests.{passed}
use Rattle.description_board.specs.declared.Board.{Board}
use Rattle.description_board.specs.Items.{board_refusal}
use Rattle.fabric_state.specs.declared.State.{State}
use Rattle.fabric_state.specs.Records.{no_entry, entry_at}
use Rattle.fabric_state.specs.Soundness.{sound}
use Rattle.fabric_state.specs.Logging.{without_oldest, with_log}
use Rattle.fabric_layout.specs.Layout.{state_in}
use Rattle.fabric_layout.specs.Numbers.{oldest_removed}
use Rattle.fabric_calls.specs.Calls.{Take, take_refusal, taken_of, take_answer, state_after_take}
use Rattle.fabric_calls.specs.Lent.{Takes}
use Rattle.fabric_calls.proofs.PostLaws.{passed_number}

module _ (b : Board) (st : State) where
  pub take_empty : board_refusal b ≡ 0 → sound b st ≡ true → st.log.count ≡ 0 → take_refusal b st ≡ 22
  unfolding take_refusal
  take_empty z h e = rw (z, h, e)

  pub take_free : board_refusal b ≡ 0 → sound b st ≡ true → st.log.count ≢ 0 → take_refusal b st ≡ 0
  unfolding take_refusal
  take_free z h e = rw (z, h, ne_eqb st.log.count 0 e)

  -- one that is not refused was handed an entry
  pub take_some : take_refusal b st ≡ 0 → st.log.count ≢ 0
  unfolding take_refusal
  take_some e =
      let p = passed_number (board_refusal b) _ e in
      let q = passed (not (sound b st)) 8 _ p.1 in
      eqb-false st.log.count 0 (passed (eqb st.log.count 0) 21 0 q.1).0

  pub take_number : (take_answer b st).number ≡ take_refusal b st
  unfolding take_answer
  take_number = go (eqb (take_refusal b st) 0) refl
    where
      go : (c : Bool) → eqb (take_refusal b st) 0 ≡ c → (take_answer b st).number ≡ take_refusal b st
      go true e = rw e (sym (eqb-true (take_refusal b st) 0 e))
      go false e = rw e

  -- refused and not
  pub answer_taken : take_refusal b st ≡ 0 → take_answer b st ≡ taken_of 0 (entry_at st.log 0)
  unfolding take_answer
  answer_taken e = rw e

  pub answer_refused : take_refusal b st ≢ 0 → take_answer b st ≡ taken_of (take_refusal b st) no_entry
  unfolding take_answer
  answer_refused h = rw (ne_eqb (take_refusal b st) 0 h)

  pub left_taken : take_refusal b st ≡ 0 → state_after_take b st ≡ with_log st (without_oldest st.log)
  unfolding state_after_take
  left_taken e = rw e

  pub left_refused : take_refusal b st ≢ 0 → state_after_take b st ≡ st
  unfolding state_after_take
  left_refused h = rw (ne_eqb (take_refusal b st) 0 h)

-- on lent numbers
module _ (b : Board) (before : List ℕ) where
  pub takes_refused : {n : ℕ} {a : Take} → n ≡ take_refusal b (state_in before) → n ≢ 0 → a ≡ taken_of n no_entry → Takes b before before a
  takes_refused {n} {a} e h q =
      let no : take_refusal b (state_in before) ≢ 0 = λ z. h (e ∙ z) in
      record {
        answer = q ∙ rw e (sym (answer_refused b (state_in before) no));
        state = sym (left_refused b (state_in before) no);
        numbers = λ z. absurd (h (ap (λ (x : Take). x.number) (sym q) ∙ z));
        kept = λ _. refl;
      }

  pub takes_taken : {after : List ℕ} {a : Take} → take_refusal b (state_in before) ≡ 0
      → a ≡ taken_of 0 (entry_at (state_in before).log 0)
      → (state_in after ≡ with_log (state_in before) (without_oldest (state_in before).log)) × (after ≡ oldest_removed before)
      → Takes b before after a
  takes_taken {after} {a} e q s = record {
    answer = q ∙ sym (answer_taken b (state_in before) e);
    state = s.0 ∙ sym (left_taken b (state_in before) e);
    numbers = λ _. s.1;
    kept = λ h. absurd (h (rw q));
  }
