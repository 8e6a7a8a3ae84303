-- The upper bounds, from where a master waits with at most K clocks to wait for: its first cycle comes within K + 1 clocks, its
-- finish within K clocks, its own length and its latency. Each clock, each post of another master and each take keeps such a bound.
-- Assumes nothing.
use mathlib.Core.Path.{◌≡◌, refl, sym, ap, ◌∙◌}
use mathlib.Core.Bool.{Bool, true, false, not, true≢false}
use mathlib.Core.List.{List, [], ◌∷◌}
use mathlib.Core.Logic.{◌⊎◌, inl, inr, ⊎_elim, ◌≢◌}
use Prim.Native.Nat.{ℕ, zero, suc, ◌+◌, ◌-◌, ◌≤◌, ◌<◌}
use native.Mathlib.Omega.{arith}
use Rattle.description_board.specs.declared.Board.{Board}
use Rattle.description_board.specs.Records.{master_at, slave_at}
use Rattle.description_board.specs.Legal.{Legal}
use Rattle.fabric_transfer.specs.declared.Transfer.{Transfer}
use Rattle.fabric_transfer.specs.Accesses.{latency_of, own_length}
use Rattle.fabric_state.specs.declared.Slot.{Slot}
use Rattle.fabric_state.specs.declared.Log.{Log}
use Rattle.fabric_state.specs.declared.State.{State}
use Rattle.fabric_state.specs.declared.Clocked.{Clocked}
use Rattle.fabric_state.specs.Records.{transfer_at, slot_at, late_at}
use Rattle.fabric_state.specs.Posting.{Request, transfer_of, with_transfer}
use Rattle.fabric_state.specs.Soundness.{requests, latency_at}
use Rattle.fabric_state.specs.Control.{step_of, ended, finished, state_after}
use Rattle.fabric_state.specs.Logging.{without_oldest, with_log}
use Rattle.fabric_calls.specs.Calls.{World}
use Rattle.fabric_state.proofs.StateLaws.{slot_after_lem, slot_with, late_with, mask_bit, late_after_lem, late_ends, late_less}
use Rattle.fabric_state.proofs.StateLaws.{ended_here, finished_now, finished_then}
use Rattle.fabric_state.proofs.RequestLaws.{requests_free, requests_latency}
use Rattle.fabric_state.proofs.SoundLaws.{clock_sound}
use Rattle.fabric_state.proofs.StepLaws.{grant_serving}
use Rattle.theorem_history.specs.Claim.{Call, History, answers, shows, names}
use Rattle.theorem_history.proofs.OneClock.AfterGrant.{long_at, left_in, left_at, left_now, ServesNow, AfterGrant, goes_on}
use Rattle.theorem_history.proofs.OneClock.AfterGrant.{begins, silent, after_grant}
use Rattle.theorem_history.proofs.OneClock.SlaveClock.{pot_at, acts, stays, nearer, owner_after, left_after}
use Rattle.theorem_history.proofs.OneClock.MasterClock.{kept_after, asks_after, shown}
use Rattle.theorem_history.proofs.Histories.CallCases.{with_post, with_take, answer_of, tells}
use Rattle.theorem_history.proofs.Histories.OnePost.{Taken, post_taken_lem, left_with, pot_with, kept_with, asks_with}
use Rattle.theorem_history.proofs.Histories.Standing.{Standing, post_stands, clock_stands, take_stands}
use Rattle.theorem_history.proofs.Histories.OneTake.{asks_logged, left_logged, pot_logged}
use Rattle.theorem_history.proofs.Safe.ClockTests.{By, by_now, by_later}

-- master m holds the transfer t for slave s, is not served, and has K clocks at the most to wait for
pub record Waiting (b : Board) (m s : ℕ) (t : Transfer) (K : ℕ) (st : State) : Type 0 where
  pub holds : transfer_at st m ≡ t
  pub asks : requests b st s m ≡ true
  pub off : (slot_at st s).serving ≡ true → (slot_at st s).owner ≢ m
  pub bound : ((slot_at st s).owner ≡ m → (slot_at st s).remaining ≡ 0) → pot_at b st s m ≤ K

-- it is served, and L clocks are left at the most
pub record InService (b : Board) (m s : ℕ) (t : Transfer) (L : ℕ) (st : State) : Type 0 where
  pub holds : transfer_at st m ≡ t
  pub asks : requests b st s m ≡ true
  pub on : (slot_at st s).serving ≡ true
  pub own : (slot_at st s).owner ≡ m
  pub bound : left_at b st s ≤ L

-- from a state on, with the answers xs: the first cycle, the finish of a transfer with n latency clocks to pass, of one in service,
-- of one that waits
pub record Bounds (b : Board) (m s : ℕ) (t : Transfer) (st : State) (xs : List Clocked) : Type 0 where
  pub first : (K : ℕ) → Waiting b m s t K st → By (shows m) (suc K) xs
  pub late : (n : ℕ) → late_at st m ≡ suc n → By (names m) (suc n) xs
  pub serve : (L : ℕ) → InService b m s t L st → By (names m) (L + latency_of (slave_at b s) t) xs
  pub finish : (K : ℕ) → Waiting b m s t K st
      → By (names m) (K + own_length (master_at b m) (slave_at b s) t + latency_of (slave_at b s) t) xs

-- what a clock of a transfer in service, with L clocks left at the most, leads to: it is finished, its latency begins, or it is in
-- service with a clock less
pub data ServedClock (b : Board) (m s : ℕ) (t : Transfer) (L : ℕ) (st : State) (a : Clocked) : Type 0 where
  ends : names m a ≡ true → ServedClock b m s t L st a
  waits : (n : ℕ) → latency_of (slave_at b s) t ≡ suc n → late_at (state_after b st) m ≡ suc n → ServedClock b m s t L st a
  goes : InService b m s t (L - 1) (state_after b st) → ServedClock b m s t L st a

module _
    (b : Board) (legal : Legal b) (m : ℕ) (hm : m < b.master_count) (s : ℕ) (hs : s < b.slave_count) (t : Transfer)
  where
    -- how long the transfer itself lasts
    abbrev own : ℕ
    own = own_length (master_at b m) (slave_at b s) t

    -- and the latency behind it
    abbrev behind : ℕ
    behind = latency_of (slave_at b s) t

    known : m < 8
    known = omega (arith, legal.few_masters)

    module _ (w : World) (x : Standing b w) where
      abbrev st : State
      st = w.state

      -- ---- one clock

      -- the clock is its first cycle, or it has less to wait for
      wait_clock : (K : ℕ) → Waiting b m s t K st → ServesNow b st s m ⊎ ((1 ≤ K) × Waiting b m s t (K - 1) (state_after b st))
      wait_clock K y =
          ⊎_elim inl
          (λ n.
          let k = kept_after b legal st x.sound s hs m y.asks (λ _. n.other) in
          inr (
            n.some,
            record {
              holds = k ∙ y.holds;
              asks = asks_after b legal st x.sound s hs m y.asks (λ _. n.other);
              off = λ e q. n.other (sym (owner_after b legal st x.sound s hs n.on) ∙ q);
              bound = λ a. n.bound;
            },
          ))
          (nearer b legal st x.sound s hs m hm y.asks K y.off y.bound)

      first_shown : ServesNow b st s m → shows m (answer_of b w) ≡ true
      unfolding shows
      first_shown n = shown b legal st x.sound s hs m n

      finish_shown : finished b st m ≡ true → names m (answer_of b w) ≡ true
      unfolding names
      finish_shown f = mask_bit b st m known ∙ f

      -- a clock that serves it finishes it, or leaves its latency or one clock less
      served_clock : (L : ℕ) → requests b st s m ≡ true → transfer_at st m ≡ t → ServesNow b st s m → left_now b st s ≤ L
          → ServedClock b m s t L st (answer_of b w)
      served_clock L q h n l = go (step_of b st s).slot.serving refl
        where
          ended_now : (step_of b st s).slot.serving ≡ false → ended b st m ≡ true
          ended_now e =
              let c = acts b legal st x.sound s hs n.on in
              ended_here b st m s hs (c.ends ∙ ap not e) (c.line ∙ n.owner)

          free : late_at st m ≡ 0
          free = requests_free b st s m q

          same : latency_at b m (transfer_at st m) ≡ behind
          same = requests_latency b st s m legal q ∙ ap (latency_of (slave_at b s)) h

          last : ended b st m ≡ true → (c : ℕ) → behind ≡ c → ServedClock b m s t L st (answer_of b w)
          last f zero e = ends (finish_shown (finished_now b st m free f (same ∙ e)))
          last f (suc c) e = waits c e (late_after_lem b st m known ∙ late_ends b st m free f ∙ same ∙ e)

          go : (c : Bool) → (step_of b st s).slot.serving ≡ c → ServedClock b m s t L st (answer_of b w)
          go true e =
              let k : transfer_at (state_after b st) m ≡ transfer_at st m =
              rw n.owner at (stays b legal st x.sound s hs n.on e) in
              let o : (slot_at (state_after b st) s).owner ≡ m = owner_after b legal st x.sound s hs n.on ∙ n.owner in
              let on : (slot_at (state_after b st) s).serving ≡ true =
              ap (λ (y : Slot). y.serving) (slot_after_lem b st s hs legal.few_slaves) ∙ e in
              goes
              (record {
                holds = k ∙ h;
                asks = rw o at ((clock_sound b st legal x.sound).serving s hs on).asks;
                on = on;
                own = o;
                bound = omega (arith, left_after b legal st x.sound s hs n.on, l);
              })
          go false e = last (ended_now e) behind refl

      -- its first cycle: all of it is left
      start_clock : (K : ℕ) → Waiting b m s t K st → ServesNow b st s m → ServedClock b m s t own st (answer_of b w)
      start_clock K y n = served_clock own y.asks y.holds n (whole (after_grant b st s))
        where
          whole : AfterGrant b st s → left_now b st s ≤ own
          whole (goes_on e z) = absurd (y.off e (sym (ap (λ (i : Slot). i.owner) z) ∙ n.owner))
          whole (begins g) =
              let i : g.master ≡ m = sym g.owner ∙ n.owner in
              let k = ap (long_at b st s) i ∙ ap (own_length (master_at b m) (slave_at b s)) y.holds in
              omega (arith, g.left, k)
          whole (silent rest e off none) = absurd (true≢false (sym n.on ∙ off))

      -- a later one
      serves_again : (L : ℕ) → InService b m s t L st → ServesNow b st s m
      serves_again L y =
          let e = grant_serving b st s y.on in
          record { on = ap (λ (z : Slot). z.serving) e ∙ y.on; owner = ap (λ (z : Slot). z.owner) e ∙ y.own }

      serve_clock : (L : ℕ) → InService b m s t L st → ServedClock b m s t L st (answer_of b w)
      serve_clock L y =
          let same = ap (left_in b st s) (grant_serving b st s y.on) in
          served_clock L y.asks y.holds (serves_again L y) (omega (arith, same, y.bound))

      some_left : (L : ℕ) → InService b m s t L st → 1 ≤ L
      some_left L y =
          let same = ap (left_in b st s) (grant_serving b st s y.on) in
          omega (arith, same, (acts b legal st x.sound s hs (serves_again L y).on).some, y.bound)

      -- a latency clock: the last one finishes it
      late_clock : (n : ℕ) → late_at st m ≡ suc n
          → (names m (answer_of b w) ≡ true) ⊎ ((k : ℕ) × (n ≡ suc k) × (late_at (state_after b st) m ≡ suc k))
      late_clock zero e = inl (finish_shown (finished_then b st m e))
      late_clock (suc k) e =
          let some : late_at st m ≢ 0 = λ z. omega (arith, e, z) in
          inr (k, refl, omega (arith, late_after_lem b st m known, late_less b st m some, e))

      -- ---- a post of another master

      module _ (q : Request) (taken : Taken b st q) where
        abbrev then : State
        then = with_transfer st q.master (transfer_of q)

        same_slot : slot_at then s ≡ slot_at st s
        same_slot = slot_with st q.master (transfer_of q) s

        wait_post : (K : ℕ) → Waiting b m s t K st → Waiting b m s t K then
        wait_post K y = record {
          holds = kept_with b st x.sound q.master (transfer_of q) taken.free s m y.asks ∙ y.holds;
          asks = asks_with b st x.sound q.master (transfer_of q) taken.free s m y.asks;
          off = rw same_slot y.off;
          bound = λ a.
              let same = pot_with b st x.sound q.master (transfer_of q) taken.free s m hs in
              omega (arith, same, y.bound (rw same_slot at a));
        }

        serve_post : (L : ℕ) → InService b m s t L st → InService b m s t L then
        serve_post L y = record {
          holds = kept_with b st x.sound q.master (transfer_of q) taken.free s m y.asks ∙ y.holds;
          asks = asks_with b st x.sound q.master (transfer_of q) taken.free s m y.asks;
          on = rw same_slot y.on;
          own = rw same_slot y.own;
          bound = omega (arith, left_with b st x.sound q.master (transfer_of q) taken.free s hs, y.bound);
        }

    -- ---- a take

    module _ (w : World) where
      abbrev left : Log
      left = without_oldest w.state.log

      wait_take : (K : ℕ) → Waiting b m s t K w.state → Waiting b m s t K (with_take w).state
      unfolding with_log
      wait_take K y = record {
        holds = y.holds;
        asks = asks_logged b w.state left s m ∙ y.asks;
        off = y.off;
        bound = λ a. omega (arith, pot_logged b w.state left s m, y.bound a);
      }

      serve_take : (L : ℕ) → InService b m s t L w.state → InService b m s t L (with_take w).state
      unfolding with_log
      serve_take L y = record {
        holds = y.holds;
        asks = asks_logged b w.state left s m ∙ y.asks;
        on = y.on;
        own = y.own;
        bound = omega (arith, left_logged b w.state left s, y.bound);
      }

    -- ---- along a history

    module _ (lasts : 1 ≤ own) where
      bounds_none : (w : World) → Standing b w → Bounds b m s t w.state []
      bounds_none w x = record {
        first = λ K y l. absurd (omega arith);
        late = λ n e l. absurd (omega arith);
        serve = λ L y l. absurd (omega (arith, some_left w x L y));
        finish = λ K y l. absurd (omega arith);
      }

      bounds_post : (w : World) → Standing b w → (q : Request) → Taken b w.state q → (xs : List Clocked)
          → Bounds b m s t (with_post w q).state xs → Bounds b m s t w.state xs
      bounds_post w x q k xs r = record {
        first = λ K y. r.first K (wait_post w x q k K y);
        late = λ n e. r.late n (late_with w.state q.master (transfer_of q) m ∙ e);
        serve = λ L y. r.serve L (serve_post w x q k L y);
        finish = λ K y. r.finish K (wait_post w x q k K y);
      }

      bounds_clock : (w : World) → Standing b w → (xs : List Clocked)
          → Bounds b m s t (state_after b w.state) xs → Bounds b m s t w.state (answer_of b w ∷ xs)
      bounds_clock w x xs r =
          let a = answer_of b w in
          record {
            first = λ K y.
                ⊎_elim (λ n. by_now (shows m) (suc K) a xs (omega arith) (first_shown w x n))
                (λ z. by_later (shows m) (suc (K - 1)) (suc K) a xs (omega (arith, z.0)) (r.first (K - 1) z.1))
                (wait_clock w x K y);
            late = λ n e.
                ⊎_elim (λ f. by_now (names m) (suc n) a xs (omega arith) f)
                (λ z. by_later (names m) (suc z.0) (suc n) a xs (omega (arith, z.1)) (r.late z.0 z.2))
                (late_clock w x n e);
            serve = λ L y. served L (some_left w x L y) (L + behind) (omega arith) (serve_clock w x L y);
            finish = λ K y.
                ⊎_elim
                (λ n. served own lasts (K + own + behind) (omega arith) (start_clock w x K y n))
                (λ z.
                by_later (names m) (K - 1 + own + behind) (K + own + behind) a xs (omega (arith, z.0)) (r.finish (K - 1) z.1))
                (wait_clock w x K y);
          }
        where
          served : (L : ℕ) → 1 ≤ L → (n : ℕ) → L + behind ≤ n → ServedClock b m s t L w.state (answer_of b w)
              → By (names m) n (answer_of b w ∷ xs)
          served L l n h (ends f) = by_now (names m) n (answer_of b w) xs (omega arith) f
          served L l n h (waits k e f) =
              by_later (names m) (suc k) n (answer_of b w) xs (omega (arith, e)) (r.late k f)
          served L l n h (goes z) =
              by_later (names m) (L - 1 + behind) n (answer_of b w) xs (omega arith) (r.serve (L - 1) z)

      bounds_take : (w : World) (xs : List Clocked) → Bounds b m s t (with_take w).state xs → Bounds b m s t w.state xs
      unfolding with_log
      bounds_take w xs r = record {
        first = λ K y. r.first K (wait_take w K y);
        late = r.late;
        serve = λ L y. r.serve L (serve_take w L y);
        finish = λ K y. r.finish K (wait_take w K y);
      }

      pub bounds : (cs : List Call) (w : World) → History b w cs → Standing b w → Bounds b m s t w.state (answers cs)
      bounds =
          tells b (λ w xs. Standing b w → Bounds b m s t w.state xs) bounds_none
          (λ w q e xs f x. let k = post_taken_lem b w q e in bounds_post w x q k xs (f (post_stands b legal w q x k)))
          (λ w e xs f x. bounds_clock w x xs (f (clock_stands b legal w x)))
          (λ w e xs f x. bounds_take w xs (f (take_stands b legal w x)))
