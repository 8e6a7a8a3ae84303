-- What stands behind every call of a history: a sound state, whatever is lent; and where memory and buffer have their exact lengths,
-- these lengths, and each slave within its owner's turn.
-- Assumes nothing.
use mathlib.Core.Path.{◌≡◌, refl, sym, ap, subst₂, subst₃, ◌∙◌}
use mathlib.Core.List.{List}
use Prim.Native.Nat.{ℕ, ◌<◌}
use native.Mathlib.Omega.{arith}
use borrow.Author.Tests.{eq-eqb}
use Rattle.description_board.specs.declared.Board.{Board}
use Rattle.description_board.specs.Items.{board_refusal}
use Rattle.description_board.specs.Legal.{Legal}
use Rattle.fabric_transfer.proofs.StoreLaws.{length_posted}
use Rattle.fabric_state.specs.declared.Slot.{Slot}
use Rattle.fabric_state.specs.declared.State.{State}
use Rattle.fabric_state.specs.Records.{slot_at}
use Rattle.fabric_state.specs.Posting.{Request, transfer_of}
use Rattle.fabric_state.specs.Resetting.{state_at_reset}
use Rattle.fabric_state.specs.Logging.{without_oldest, with_log}
use Rattle.fabric_calls.specs.Calls.{World, reset}
use Rattle.fabric_state.proofs.Sound.{Sound}
use Rattle.fabric_state.proofs.StateLaws.{slot_with, slot_reset}
use Rattle.fabric_state.proofs.StoreLengths.{store_length}
use Rattle.fabric_state.proofs.SoundLaws.{reset_sound, post_sound, clock_sound, take_sound}
use Rattle.theorem_bounds.proofs.Credit.{credit_zero}
use Rattle.theorem_history.specs.Claim.{Call, Start, Lent, History, after}
use Rattle.theorem_history.proofs.OneClock.PairFigures.{single_of, longest_of}
use Rattle.theorem_history.proofs.OneClock.UsableGrants.{usable_at, usable_none}
use Rattle.theorem_history.proofs.OneClock.SlaveClock.{InTurn, Paced, left_rests, pace_after}
use Rattle.theorem_history.proofs.Histories.CallCases.{TakesPost, with_post, with_clock, with_take, keeps}
use Rattle.theorem_history.proofs.Histories.OnePost.{Taken, post_taken_lem, left_with, usable_with}
use Rattle.theorem_history.proofs.Histories.OneTake.{left_logged, usable_logged}

pub record Standing (b : Board) (w : World) : Type 0 where
  pub sound : Sound b w.state
  pub paced : (s : ℕ) → s < b.slave_count → Paced b w.state s
  pub lent : Lent b w

-- a history starts on a checked board, with the state at reset
pub start_checked : (b : Board) (w : World) → Start b w → board_refusal b ≡ 0
unfolding reset
start_checked b w x = x.accepted

pub start_state : (b : Board) (w : World) → Start b w → w.state ≡ state_at_reset b
unfolding reset
start_state b w x = x.state ∙ rw (eq-eqb (board_refusal b) 0 (start_checked b w x))

module _ (b : Board) (legal : Legal b) where
  -- ---- the state: whatever was lent, it is sound

  pub start_sound : (w : World) → Start b w → Sound b w.state
  start_sound w x = rw (start_state b w x) (reset_sound b legal)

  pub posted_sound : (w : World) (q : Request) → TakesPost b w q → Sound b w.state → Sound b (with_post w q).state
  posted_sound w q e x =
      let t = post_taken_lem b w q e in
      post_sound b w.state q.master (transfer_of q) legal x t.master t.free t.fits refl

  pub history_sound : (w : World) (cs : List Call) → Start b w → History b w cs → Sound b (after w cs).state
  history_sound w cs start h =
      keeps b (λ u. Sound b u.state) posted_sound (λ u t x. clock_sound b u.state legal x)
      (λ u t x. take_sound b u.state x) cs w h (start_sound w start)

  -- ---- all of it

  pub start_stands : (w : World) → Start b w → Lent b w → Standing b w
  unfolding InTurn
  start_stands w x lent = record {
    sound = start_sound w x;
    paced = λ s hs.
        let e : slot_at w.state s ≡ _ = ap (λ (y : State). slot_at y s) first ∙ slot_reset b s hs legal.few_slaves in
        let o = (slot_at w.state s).owner in
        omega (
          arith,
          left_rests b w.state s (ap (λ (y : Slot). y.serving) e),
          credit_zero (single_of b s o) (longest_of b s o) (usable_at b w.state s)
              (usable_none b w.state s (slot_at w.state s) (ap (λ (y : Slot). y.remaining) e)),
        );
    lent = lent;
  }
    where
      first : w.state ≡ state_at_reset b
      first = start_state b w x

  pub post_stands : (w : World) (q : Request) → Standing b w → Taken b w.state q → Standing b (with_post w q)
  post_stands w q x t = record {
    sound = post_sound b w.state q.master (transfer_of q) legal x.sound t.master t.free t.fits refl;
    paced = λ s hs.
        let e = slot_with w.state q.master (transfer_of q) s in
        subst₃ (InTurn b s) (sym (ap (λ (y : Slot). y.owner) e))
        (sym (usable_with b w.state x.sound q.master (transfer_of q) t.free s hs))
        (sym (left_with b w.state x.sound q.master (transfer_of q) t.free s hs)) (x.paced s hs);
    lent = record {
      memory = x.lent.memory;
      buffer = length_posted q.master q.words w.store.buffer ∙ x.lent.buffer;
    };
  }

  pub clock_stands : (w : World) → Standing b w → Standing b (with_clock b w)
  clock_stands w x =
      let l = store_length b w.state w.store in
      record {
        sound = clock_sound b w.state legal x.sound;
        paced = λ s hs. pace_after b legal w.state x.sound s hs (x.paced s hs);
        lent = record { memory = l.0 ∙ x.lent.memory; buffer = l.1 ∙ x.lent.buffer };
      }

  pub take_stands : (w : World) → Standing b w → Standing b (with_take w)
  unfolding with_log
  take_stands w x =
      let log = without_oldest w.state.log in
      record {
        sound = take_sound b w.state x.sound;
        paced = λ s hs.
            subst₂ (InTurn b s (slot_at w.state s).owner) (sym (usable_logged b w.state log s))
            (sym (left_logged b w.state log s)) (x.paced s hs);
        lent = record { memory = x.lent.memory; buffer = x.lent.buffer };
      }

  pub history_stands : (w : World) (cs : List Call) → Start b w → Lent b w → History b w cs → Standing b (after w cs)
  history_stands w cs start lent h =
      keeps b (Standing b) (λ u q t x. post_stands u q x (post_taken_lem b u q t)) (λ u t x. clock_stands u x)
      (λ u t x. take_stands u x) cs w h (start_stands w start lent)
