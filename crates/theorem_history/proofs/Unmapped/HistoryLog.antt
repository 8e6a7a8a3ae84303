-- The log of a history is what its calls give, a take answers its oldest entry (rule 6.13), and a master whose last request is for a
-- slave has response 0 (rule 6.12). This holds whatever memory and buffer were lent.
-- Assumes nothing.
use mathlib.Core.Path.{◌≡◌, refl, sym, ap, ◌∙◌}
use mathlib.Core.Bool.{Bool, true, false, cond}
use mathlib.Core.List.{List, [], ◌∷◌}
use mathlib.Core.Logic.{◌≢◌, ⊎_elim}
use Prim.Native.Nat.{ℕ, zero, suc, ◌≤◌, ◌<◌}
use native.Mathlib.Omega.{arith}
use lib.Dec.{ltb, eqb}
use lib.ListN.{length, get_or}
use borrow.Author.Tests.{eqb-true, eqb-false}
use Rattle.common_laws.proofs.TableLaws.{get_or_replicate_all}
use Rattle.description_board.specs.declared.Board.{Board}
use Rattle.description_board.specs.Items.{board_refusal}
use Rattle.description_board.specs.Legal.{Legal}
use Rattle.fabric_transfer.proofs.MoveLaws.{less_or}
use Rattle.fabric_state.specs.declared.Entry.{Entry}
use Rattle.fabric_state.specs.declared.Log.{Log}
use Rattle.fabric_state.specs.declared.State.{State}
use Rattle.fabric_state.specs.Records.{no_entry, transfer_at, entry_at}
use Rattle.fabric_state.specs.Posting.{Request, transfer_of}
use Rattle.fabric_state.specs.Soundness.{unmapped_at}
use Rattle.fabric_state.specs.Logging.{entry_of, entered_by, log_after, without_oldest, with_log}
use Rattle.fabric_state.specs.Control.{responses_of}
use Rattle.fabric_calls.specs.Calls.{World, clock, taken_of, take_answer}
use Rattle.fabric_state.proofs.Sound.{Sound}
use Rattle.fabric_state.proofs.StateLaws.{log_reset, log_after_lem, log_with, response_after, response_after_past}
use Rattle.fabric_state.proofs.StateLaws.{response_unmapped, response_mapped}
use Rattle.fabric_state.proofs.RequestLaws.{unmapped_held}
use Rattle.fabric_state.proofs.SoundLaws.{sound_test, clock_sound, take_sound}
use Rattle.fabric_calls.proofs.RunOfClocks.{clock_is}
use Rattle.fabric_calls.proofs.TakeLaws.{take_empty, take_free, answer_taken, answer_refused}
use Rattle.theorem_history.specs.Claim.{Call, after, History, Start, Mapped, response_to, Logged, logged_at, log_entry}
use Rattle.theorem_history.specs.Claim.{log_responses, log_calls, log_of, oldest_of}
use Rattle.theorem_history.proofs.Histories.CallCases.{TakesPost, TakesClock, TakesEntry, with_post, with_clock, with_take}
use Rattle.theorem_history.proofs.Histories.CallCases.{logged_post, logged_take, clock_number, clock_refused, logs}
use Rattle.theorem_history.proofs.Histories.OnePost.{post_taken_lem}
use Rattle.theorem_history.proofs.Histories.Standing.{start_checked, start_state, start_sound, posted_sound}
use Rattle.theorem_history.proofs.Histories.LastRequests.{HoldsLast, last_reset, last_post, last_clock, last_take}
use Rattle.theorem_history.proofs.Histories.LastRequests.{last_mapped}
use Rattle.theorem_history.proofs.Unmapped.LogLists.{log_none, log_count, log_entry_lem, log_entered, log_taken}

-- what stands, and the log that the calls before it give
record Logs (b : Board) (w : World) (k : Logged) : Type 0 where
  sound : Sound b w.state
  last : HoldsLast w.state k.request
  log : w.state.log ≡ log_of k

logs_few : (b : Board) (w : World) (k : Logged) → Logs b w k → length k.entries ≤ 8
logs_few b w k x = omega (arith, x.sound.log, ap (λ (l : Log). l.count) x.log, log_count k)

-- ---- one clock

-- entries and responses tell it of no request
entry_requests : (e : Entry) (k : Logged) → (log_entry e k).request ≡ k.request
unfolding log_entry
entry_requests e k = go (ltb (length k.entries) 8) refl
  where
    go : (c : Bool) → ltb (length k.entries) 8 ≡ c → (log_entry e k).request ≡ k.request
    go true q = rw q
    go false q = rw q

responses_requests : (rs : List ℕ) (n : ℕ) (k : Logged) → (log_responses rs n k).request ≡ k.request
unfolding log_responses
responses_requests rs zero k = refl
responses_requests rs (suc n) k = go (eqb (get_or rs n 0) 3) ∙ responses_requests rs n k
  where
    l : Logged
    l = log_responses rs n k

    entry : Entry
    entry = record { master = n; address = (l.request n).address; write = (l.request n).write }

    go : (c : Bool) → (cond c (log_entry entry l) l).request ≡ l.request
    go true = entry_requests entry l
    go false = refl

module _ (b : Board) (st : State) (k : Logged) (last : HoldsLast st k.request) (same : st.log ≡ log_of k) where
  -- of the first n masters: their unmapped transfers are those with response 3, and were posted last
  log_by_lem : (n : ℕ) → n ≤ 8 → entered_by b st n ≡ log_of (log_responses (responses_of b st) n k)
  unfolding entered_by log_responses
  log_by_lem zero h = same
  log_by_lem (suc n) h = go (unmapped_at b st n) refl (log_by_lem n (omega arith))
    where
      l : Logged
      l = log_responses (responses_of b st) n k

      -- what the calls say of master n
      entry : Entry
      entry = record { master = n; address = (l.request n).address; write = (l.request n).write }

      posted : unmapped_at b st n ≡ true → entry_of n (transfer_at st n) ≡ entry
      posted e =
          let asked = responses_requests (responses_of b st) n k in
          rw (last.transfer n (unmapped_held b st n e), asked)

      go : (c : Bool) → unmapped_at b st n ≡ c → entered_by b st n ≡ log_of l
          → entered_by b st (suc n) ≡ log_of (log_responses (responses_of b st) (suc n) k)
      go true e rest =
          let three = response_after b st n (omega arith) ∙ response_unmapped b st n e in
          rw (e, three, rest, posted e) (log_entered l entry)
      go false e rest =
          let none = response_after b st n (omega arith) ∙ response_mapped b st n e in
          rw (e, none) rest

-- ---- through the calls

module _ (b : Board) (legal : Legal b) where
  start_logs : (w : World) → Start b w → Logs b w logged_at
  start_logs w s = record {
    sound = start_sound b legal w s;
    last = rw (start_state b w s) (last_reset b logged_at.request);
    log = ap (λ (st : State). st.log) (start_state b w s) ∙ log_reset b ∙ log_none;
  }

  post_logs : (w : World) (k : Logged) (q : Request) → TakesPost b w q → Logs b w k → Logs b (with_post w q) (logged_post q k)
  unfolding log_of
  post_logs w k q e x =
      let t = post_taken_lem b w q e in
      record {
        sound = posted_sound b legal w q e x.sound;
        last = last_post w.state k.request x.last q x.sound.transfers
            (omega (arith, t.master, legal.few_masters));
        log = log_with w.state q.master (transfer_of q) ∙ x.log;
      }

  clock_logs : (w : World) (k : Logged) → TakesClock b w → Logs b w k
      → Logs b (with_clock b w) (log_responses (responses_of b w.state) 8 k)
  unfolding log_after
  clock_logs w k e x = record {
    sound = clock_sound b w.state legal x.sound;
    last = rw (responses_requests (responses_of b w.state) 8 k) (last_clock w.state k.request x.last b);
    log = log_after_lem b w.state ∙ log_by_lem b w.state k x.last x.log 8 (omega arith);
  }

  take_logs : (w : World) (k : Logged) → TakesEntry b w → Logs b w k → Logs b (with_take w) (logged_take k)
  unfolding with_log
  take_logs w k e x = record {
    sound = take_sound b w.state x.sound;
    last = last_take w.state k.request x.last (without_oldest w.state.log);
    log = ap without_oldest x.log ∙ log_taken k (logs_few b w k x);
  }

  history_logs : (w : World) (calls : List Call) → Start b w → History b w calls
      → Logs b (after w calls) (log_calls logged_at calls)
  history_logs w calls start h =
      logs b (Logs b) post_logs clock_logs take_logs calls w h logged_at (start_logs w start)

  -- ---- the claim

  pub log_right : (w : World) (calls : List Call) → Start b w → History b w calls
      → (after w calls).state.log ≡ log_of (log_calls logged_at calls)
  log_right w calls start h = (history_logs w calls start h).log

  -- what a take answers where the log is that
  answer_is : board_refusal b ≡ 0 → (w : World) (k : Logged) → Logs b w k → take_answer b w.state ≡ oldest_of k.entries
  unfolding oldest_of
  answer_is ok w k x = go k.entries refl
    where
      st : State
      st = w.state

      keeps : (es : List Entry) → k.entries ≡ es → st.log.count ≡ length es
      keeps es e = ap (λ (l : Log). l.count) x.log ∙ log_count k ∙ ap length e

      go : (es : List Entry) → k.entries ≡ es → take_answer b st ≡ oldest_of es
      go [] e =
          let no = take_empty b st ok (sound_test b st legal x.sound) (keeps [] e) in
          answer_refused b st (λ z. omega (arith, no, z)) ∙ ap (λ (n : ℕ). taken_of n no_entry) no
      go (y ∷ es) e =
          let some : st.log.count ≢ 0 = λ z. omega (arith, keeps (y ∷ es) e, z) in
          answer_taken b st (take_free b st ok (sound_test b st legal x.sound) some)
          ∙ ap (taken_of 0)
          (ap (λ (l : Log). entry_at l 0) x.log
          ∙ log_entry_lem k (logs_few b w k x) 0
          ∙ ap (λ (l : List Entry). get_or l 0 no_entry) e)

  pub taken_right : (w : World) (calls : List Call) → Start b w → History b w calls
      → take_answer b (after w calls).state ≡ oldest_of (log_calls logged_at calls).entries
  taken_right w calls start h =
      answer_is (start_checked b w start) (after w calls) (log_calls logged_at calls) (history_logs w calls start h)

  pub okay_right : (w : World) (calls : List Call) (m : ℕ) → Start b w → History b w calls
      → let u = after w calls in
      Mapped b ((log_calls logged_at calls).request m) → response_to m (clock b u.state u.store) ≡ 0
  unfolding response_to
  okay_right w calls m start h mapped = go (eqb (clock b st u.store).number 0) refl
    where
      u : World
      u = after w calls

      st : State
      st = u.state

      holds : unmapped_at b st m ≡ false
      holds = last_mapped st _ (history_logs w calls start h).last b m mapped

      go : (c : Bool) → eqb (clock b st u.store).number 0 ≡ c → get_or (clock b st u.store).responses m 0 ≡ 0
      go true e =
          let free = sym (clock_number b st u.store) ∙ eqb-true (clock b st u.store).number 0 e in
          rw (clock_is b st u.store free)
          (⊎_elim (λ (l : m < 8). response_after b st m l ∙ response_mapped b st m holds)
          (λ (l : 8 ≤ m). response_after_past b st m l)
          (less_or m 8))
      go false e =
          rw (clock_refused b st u.store (eqb-false (clock b st u.store).number 0 e)) (get_or_replicate_all 8 m 0)
