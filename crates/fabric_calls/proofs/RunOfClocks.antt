-- A run of clocks (rule 4.15), clock by clock: a clock that is not refused leaves what the next one is not refused for.
-- Assumes nothing.
use mathlib.Core.Path.{◌≡◌, refl, ap, ◌∙◌}
use mathlib.Core.Bool.{true, not, ◌||◌}
use mathlib.Core.List.{List}
use Prim.Native.Nat.{ℕ, zero, suc, ◌+◌}
use lib.Dec.{eqb}
use lib.ListN.{length}
use native.Mathlib.Numerals.{add-one}
use borrow.Author.Tests.{ne_eqb, not-false}
use Rattle.common_laws.proofs.Tests.{passed}
use Rattle.description_board.specs.declared.Board.{Board}
use Rattle.description_board.specs.Records.{memory_length}
use Rattle.description_board.specs.Items.{board_refusal}
use Rattle.description_board.proofs.Accepted.{accepted_legal}
use Rattle.fabric_transfer.specs.Bytes.{Store, buffer_length}
use Rattle.fabric_state.specs.declared.State.{State}
use Rattle.fabric_state.specs.Soundness.{sound}
use Rattle.fabric_state.specs.Control.{mask_of, responses_of, state_after, lines_of}
use Rattle.fabric_state.specs.declared.Line.{Line}
use Rattle.fabric_state.specs.Carrying.{store_after}
use Rattle.fabric_state.specs.Clocking.{clocked_of}
use Rattle.fabric_state.proofs.SoundLaws.{sound_test, sound_facts, clock_sound}
use Rattle.fabric_state.proofs.StateLaws.{transfers_after, slots_after, lates_after}
use Rattle.fabric_state.proofs.StoreLengths.{store_length}
use Rattle.fabric_calls.specs.Calls.{clock_refusal, clock, store_after_clock, after_clock}
use Rattle.fabric_calls.specs.Running.{Run, clock_more, clock_on}
use Rattle.fabric_calls.proofs.PostLaws.{passed_number}
use Rattle.fabric_calls.proofs.ClockLaws.{not_refused, exact_lengths}

-- the state has as many entries as the arrays that it is read from
pub record Sized (st : State) : Type 0 where
  pub transfers : length st.transfers ≡ 8
  pub slots : length st.slots ≡ 16
  pub lates : length st.late ≡ 8

module _ (b : Board) (st : State) (d : Store) (e : clock_refusal b st d ≡ 0) where
  pub accepted_board : board_refusal b ≡ 0
  unfolding clock_refusal
  accepted_board = (passed_number (board_refusal b) _ e).0

  pub keeps_rules : sound b st ≡ true
  unfolding clock_refusal
  keeps_rules =
      let p = passed_number (board_refusal b) _ e in
      let memory = eqb (length d.memory) (memory_length b) in
      let buffer = eqb (length d.buffer) buffer_length in
      let q = passed (not memory || not buffer) 7 _ p.1 in
      not-false (sound b st) (passed (not (sound b st)) 8 0 q.1).0

  -- the answer and the bytes of a clock that is not refused
  pub clock_is : clock b st d ≡ clocked_of b st
  unfolding clock
  clock_is = rw e

  pub store_is : store_after_clock b st d ≡ store_after b st d
  unfolding store_after_clock
  store_is = rw e

  pub refusal_again : Sized st → clock_refusal b (state_after b st) (store_after b st d) ≡ 0
  refusal_again z =
      let legal = accepted_legal b accepted_board in
      let x = sound_facts b st z.transfers z.slots z.lates legal.few_slaves keeps_rules in
      let n = store_length b st d in
      let m = exact_lengths b st d e in
      not_refused b (state_after b st) (store_after b st d) accepted_board (n.0 ∙ m.0) (n.1 ∙ m.1)
      (sound_test b (state_after b st) legal (clock_sound b st legal x))

pub sized_after : (b : Board) (st : State) → Sized (state_after b st)
sized_after b st = record { transfers = transfers_after b st; slots = slots_after b st; lates = lates_after b st }

-- how far a run of clocks has come after n of them, of which the last answered mask, responses and lines and left st and d
abbrev pub reached : ℕ → ℕ → List ℕ → List Line → State → Store → Run
reached n mask responses lines st d = record {
  number = 0;
  clocks = n;
  mask = mask;
  responses = responses;
  lines = lines;
  world = record { state = st; store = d };
}

-- and after one clock more from st and d
abbrev pub reached_by : Board → ℕ → State → Store → Run
reached_by b n st d =
    reached n (mask_of b st) (responses_of b st) (lines_of b st) (state_after b st) (store_after b st d)

pub more_is : (b : Board) (n mask : ℕ) (responses : List ℕ) (lines : List Line) (st : State) (d : Store) → clock_refusal b st d ≡ 0
    → clock_more b (reached n mask responses lines st d) ≡ reached_by b (n + 1) st d
unfolding clock_more after_clock
more_is b n mask responses lines st d e = rw (clock_is b st d e, store_is b st d e)

-- one that goes on, and one that has come to its end
pub on_next : (b : Board) (left n : ℕ) (responses : List ℕ) (lines : List Line) (st : State) (d : Store) → clock_refusal b st d ≡ 0
    → clock_on b (left + 1) (reached n 0 responses lines st d) ≡ clock_on b left (reached_by b (n + 1) st d)
unfolding clock_on
on_next b left n responses lines st d e = rw (add-one left) (ap (clock_on b left) (more_is b n 0 responses lines st d e))

pub on_spent : (b : Board) (r : Run) → clock_on b 0 r ≡ r
unfolding clock_on
on_spent b r = refl

pub on_finished : (b : Board) (left : ℕ) (r : Run) → (r.mask ≡ 0 → ⊥) → clock_on b left r ≡ r
unfolding clock_on
on_finished b zero r h = refl
on_finished b (suc left) r h = rw (ne_eqb r.mask 0 h)
