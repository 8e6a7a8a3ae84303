-- The finish comes exactly so many clocks behind the last access as the transfer has latency (rule 4.16), whatever the other masters
-- post and the other slaves do.
-- Assumes nothing.
use mathlib.Core.Path.{◌≡◌, refl, sym, ap, ◌∙◌}
use mathlib.Core.Bool.{true, false, true≢false}
use mathlib.Core.List.{List, [], ◌∷◌}
use mathlib.Core.Logic.{◌≢◌}
use Prim.Native.Nat.{ℕ, zero, suc, ◌≤◌, ◌<◌}
use native.Mathlib.Numerals.{add-one}
use native.Mathlib.Omega.{arith}
use lib.ListN.{length, take}
use Rattle.description_board.specs.declared.Board.{Board}
use Rattle.description_board.specs.Legal.{Legal}
use Rattle.description_board.proofs.Accepted.{accepted_legal}
use Rattle.fabric_state.specs.declared.Slot.{Slot}
use Rattle.fabric_state.specs.declared.State.{State}
use Rattle.fabric_state.specs.declared.Clocked.{Clocked}
use Rattle.fabric_state.specs.Records.{slot_at, late_at}
use Rattle.fabric_state.specs.Posting.{transfer_of}
use Rattle.fabric_state.specs.Soundness.{requests}
use Rattle.fabric_state.specs.Logging.{with_log}
use Rattle.fabric_state.specs.Control.{slot_finished, step_of, ended, late_after, finished}
use Rattle.fabric_calls.specs.Calls.{World}
use Rattle.fabric_state.proofs.Sound.{Sound}
use Rattle.fabric_state.proofs.StateLaws.{slot_after_lem, mask_bit, late_after_lem, late_with, late_ends, late_less, ended_here}
use Rattle.fabric_state.proofs.StateLaws.{finished_now, finished_then, unfinished_late}
use Rattle.fabric_state.proofs.StepLaws.{Outcome, rests, waiting, works, ends, outcome}
use Rattle.fabric_state.proofs.RequestLaws.{requests_free, requests_latency, requests_mapped, mapped_of}
use Rattle.fabric_state.proofs.SoundLaws.{last_asks, requester, late_mapped, clock_sound, take_sound}
use Rattle.theorem_history.specs.Claim.{Call, number_answered, next, after, History, Start, answers, names, any}
use Rattle.theorem_history.specs.ReadLatency.{clock_here, LastAccess, latency_there, FinishedBehind}
use Rattle.theorem_history.proofs.Histories.CallCases.{TakesClock, with_clock, answer_of, clock_number}
use Rattle.theorem_history.proofs.Histories.CallCases.{clock_next, clock_answered, tells}
use Rattle.theorem_history.proofs.Histories.Standing.{start_checked, posted_sound, history_sound}

-- with n + 1 latency clocks to pass, the first n answers do not name the master, and the next one does
abbrev Passes : ℕ → World → List Clocked → Type 0
Passes m w xs = (n : ℕ) → late_at w.state m ≡ suc n
    → (any (names m) (take n xs) ≡ false) × (suc n ≤ length xs → any (names m) (take (suc n) xs) ≡ true)

module _ (b : Board) (legal : Legal b) (m : ℕ) (known : m < 8) where
  shown : (w : World) → finished b w.state m ≡ true → names m (answer_of b w) ≡ true
  unfolding names
  shown w f = mask_bit b w.state m known ∙ f

  not_shown : (w : World) → finished b w.state m ≡ false → names m (answer_of b w) ≡ false
  unfolding names
  not_shown w f = mask_bit b w.state m known ∙ f

  passes_none : (w : World) → Passes m w []
  unfolding any
  passes_none w zero e = (refl, λ l. absurd (omega arith))
  passes_none w (suc n) e = (refl, λ l. absurd (omega arith))

  passes_clock : (w : World) → Sound b w.state → (xs : List Clocked) → Passes m (with_clock b w) xs
      → Passes m w (answer_of b w ∷ xs)
  unfolding any
  passes_clock w x xs f zero e = (refl, λ l. rw (shown w (finished_then b w.state m e)))
  passes_clock w x xs f (suc n) e =
      let some : late_at w.state m ≢ 0 = λ z. omega (arith, e, z) in
      let less : late_after b w.state m ≡ suc n = omega (arith, late_less b w.state m some, e) in
      let mapped = late_mapped b w.state legal x m some in
      let quiet = not_shown w (unfinished_late b w.state m mapped (λ z. omega (arith, less, z))) in
      let rest = f n (late_after_lem b w.state m known ∙ less) in
      (rw quiet rest.0, λ l. rw quiet (rest.1 (omega arith)))

  passes : (cs : List Call) (w : World) → History b w cs → Sound b w.state → Passes m w (answers cs)
  unfolding with_log
  passes =
      tells b (λ w xs. Sound b w.state → Passes m w xs) (λ w x. passes_none w)
      (λ w q t xs f x n e. f (posted_sound b legal w q t x) n (late_with w.state q.master (transfer_of q) m ∙ e))
      (λ w t xs f x. passes_clock w x xs (f (clock_sound b w.state legal x)))
      (λ w t xs f x. f (take_sound b w.state x))

-- a slave that carries out a last access serves no longer
last_free : (b : Board) (st : State) (s : ℕ) → (step_of b st s).last ≡ true → (step_of b st s).slot.serving ≡ false
unfolding slot_finished
last_free b st s f = go (outcome b st s)
  where
    go : Outcome b st s → (step_of b st s).slot.serving ≡ false
    go (rests e q) = absurd (true≢false (sym f ∙ rw q))
    go (waiting e h q) = absurd (true≢false (sym f ∙ rw q))
    go (works e h l q) = absurd (true≢false (sym f ∙ rw q))
    go (ends e h l q) = rw q

module _ (b : Board) (legal : Legal b) (w : World) (sound : Sound b w.state) (m s : ℕ) (x : LastAccess b w m s) where
  abbrev st : State
  st = w.state

  takes : TakesClock b w
  unfolding number_answered
  takes = sym (clock_number b st w.store) ∙ x.taken

  asks : requests b st s m ≡ true
  asks = rw x.owner at (last_asks b st legal sound s x.slave x.last)

  low : m < 8
  low = omega (arith, (requester b st legal sound s m asks).0, legal.few_masters)

  last : ended b st m ≡ true
  last = ended_here b st m s x.slave x.last x.owner

  late_is : late_after b st m ≡ latency_there b w m s
  late_is = late_ends b st m (requests_free b st s m asks) last ∙ requests_latency b st s m legal asks

  behind : (calls : List Call) → History b (with_clock b w) calls → FinishedBehind b w m s calls
  unfolding any
  behind calls h = record {
    free =
        ap (λ (u : World). (slot_at u.state s).serving) (clock_next b w takes)
        ∙ ap (λ (y : Slot). y.serving) (slot_after_lem b st s x.slave legal.few_slaves)
        ∙ last_free b st s x.last;
    late = ap (λ (u : World). late_at u.state m) (clock_next b w takes) ∙ late_after_lem b st m low ∙ late_is;
    before = rw (clock_answered b w takes calls) (go (latency_there b w m s) refl).0;
    then = rw (clock_answered b w takes calls, add-one (latency_there b w m s)) (go (latency_there b w m s) refl).1;
  }
    where
      go : (n : ℕ) → latency_there b w m s ≡ n
          → (any (names m) (take n (answer_of b w ∷ answers calls)) ≡ false)
          × (n < length (answer_of b w ∷ answers calls)
          → any (names m) (take (suc n) (answer_of b w ∷ answers calls)) ≡ true)
      go zero e =
          let f = finished_now b st m (requests_free b st s m asks) last (requests_latency b st s m legal asks ∙ e) in
          (refl, λ l. rw (shown b legal m low w f))
      go (suc n) e =
          let mapped = mapped_of b st m (requests_mapped b st s m legal asks) in
          let quiet = not_shown b legal m low w (unfinished_late b st m mapped (λ z. omega (arith, late_is, e, z))) in
          let then = clock_sound b st legal sound in
          let rest = passes b legal m low calls (with_clock b w) h then n (late_after_lem b st m low ∙ late_is ∙ e) in
          (rw quiet rest.0, λ l. rw quiet (rest.1 (omega arith)))

-- in a history of a board that a reset does not refuse
pub finished_behind : (b : Board) (w : World) (calls : List Call) (m s : ℕ) (later : List Call) → Start b w → History b w calls
    → let u = after w calls in
    LastAccess b u m s → History b (next u (clock_here b u)) later → FinishedBehind b u m s later
unfolding number_answered
finished_behind b w calls m s later start h x k =
    let u = after w calls in
    let legal = accepted_legal b (start_checked b w start) in
    let free = sym (clock_number b u.state u.store) ∙ x.taken in
    behind b legal u (history_sound b legal w calls start h) m s x later (rw (clock_next b u free) at k)
