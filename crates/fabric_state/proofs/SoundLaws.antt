-- A state that breaks no rule: its test; reset, a post and a clock leave one; and what holds in one clock of it.
-- Assumes nothing.
use mathlib.Core.Path.{◌≡◌, refl, sym, ap, ◌∙◌}
use mathlib.Core.Bool.{Bool, true, false, cond, ◌&&◌, false≢true, true≢false}
use mathlib.Core.Logic.{◌≢◌, ◌⊎◌, inl, inr, ⊎_elim}
use Prim.Native.Nat.{ℕ, ◌≤◌, ◌<◌}
use native.Mathlib.Decide.{ℕ_discrete}
use native.Mathlib.Omega.{arith}
use lib.Dec.{ltb, leb, eqb}
use Rattle.std.specs.Prelude.{Option, Some, None}
use lib.ListN.{length, length-replicate, get_or-eq_default}
use borrow.Author.Tests.{lt-ltb, le-leb, eq-eqb, ltb-true, ltb-false, leb-true, eqb-true, eqb-false}
use Rattle.common_laws.specs.Lists.{every}
use Rattle.common_laws.proofs.Tests.{both}
use Rattle.common_laws.proofs.TableLaws.{length_table, every_at, every_all}
use Rattle.description_board.specs.declared.Board.{Board}
use Rattle.description_board.specs.Records.{master_at, slave_at, shares_at}
use Rattle.description_board.specs.Legal.{Legal}
use Rattle.fabric_transfer.specs.declared.Transfer.{Transfer}
use Rattle.fabric_transfer.specs.Accesses.{no_transfer, accesses, wait_of}
use Rattle.fabric_arbiter.specs.declared.Arbiter.{Arbiter}
use Rattle.fabric_arbiter.specs.Granting.{grant, arbiter_after}
use Rattle.fabric_arbiter.proofs.OrderLaws.{Grants, granted_facts}
use Rattle.fabric_state.specs.declared.Slot.{Slot}
use Rattle.fabric_state.specs.declared.State.{State}
use Rattle.fabric_state.specs.Records.{no_log, transfer_at, slot_at, late_at}
use Rattle.fabric_state.specs.Posting.{transfer_refusal}
use Rattle.fabric_state.specs.Soundness.{holds_for, requests, latency_at, sound_held, sound_transfer, sound_slot_by, sound_slot, sound}
use Rattle.fabric_state.specs.Soundness.{sound_owner, sound_remaining, sound_service, sound_rest, sound_log, unmapped_at}
use Rattle.fabric_state.specs.Control.{grant_at, slot_by, slot_granted, slot_after_grant}
use Rattle.fabric_state.specs.Control.{slot_waiting, slot_accessed, slot_finished}
use Rattle.fabric_state.specs.Control.{step_of, ended, late_after, completed, finished, state_after}
use Rattle.fabric_state.specs.Resetting.{reset_state, state_at_reset}
use Rattle.fabric_state.specs.Posting.{with_transfer}
use Rattle.fabric_state.specs.Logging.{without_oldest, with_log}
use Rattle.fabric_state.proofs.Sound.{Sound}
use Rattle.fabric_state.proofs.StateLaws.{transfers_after, slots_after, lates_after, slot_after_lem, transfer_after_lem}
use Rattle.fabric_state.proofs.StateLaws.{late_after_lem, late_after_past, late_ends, late_none, late_less, ended_by}
use Rattle.fabric_state.proofs.StateLaws.{completed_late, finished_mapped, unfinished_of, uncompleted_of}
use Rattle.fabric_state.proofs.StateLaws.{transfer_kept, held_after, transfer_reset, slot_reset, late_reset}
use Rattle.fabric_state.proofs.StateLaws.{transfers_with, slots_with, lates_with, transfer_with, transfer_with_other}
use Rattle.fabric_state.proofs.StateLaws.{slot_with, late_with, log_with, log_after_lem}
use Rattle.fabric_state.proofs.RequestLaws.{requests_held, requests_one, requests_selects, requests_free, requests_mapped}
use Rattle.fabric_state.proofs.RequestLaws.{unmapped_held, unmapped_is, mapped_of, latency_unmapped}
use Rattle.fabric_state.proofs.RequestLaws.{Accepted, accepted_at, accepted_accesses}
use Rattle.fabric_state.proofs.LogLaws.{log_count, oldest_count}
use Rattle.fabric_state.proofs.StepLaws.{wait_now, accesses_now, Outcome, rests, waiting, works, ends, outcome}
use Rattle.fabric_state.proofs.StepLaws.{grant_serving, grant_given, line_owner, last_serving}

-- the slot x of slave s: it serves a transfer of which something is left
pub record SlotServes (b : Board) (st : State) (s : ℕ) (x : Slot) : Type 0 where
  pub asks : requests b st s x.owner ≡ true
  pub done : x.done < accesses (master_at b x.owner) (slave_at b s) (transfer_at st x.owner)
  pub waited : x.waited ≤ wait_of (slave_at b s) (transfer_at st x.owner)

-- the slot x of slave s breaks no rule
pub record SlotSound (b : Board) (st : State) (s : ℕ) (x : Slot) : Type 0 where
  pub owner : x.owner < b.master_count
  pub remaining : (x.remaining ≡ 0) ⊎ (x.remaining < shares_at b x.owner s)
  pub serving : x.serving ≡ true → SlotServes b st s x
  pub resting : x.serving ≡ false → (x.done ≡ 0) × (x.waited ≡ 0)

-- the transfer t of master m and its latency clocks break no rule
pub record HeldSound (b : Board) (m : ℕ) (t : Transfer) (clocks : ℕ) : Type 0 where
  pub holds : t.held ≡ true → (m < b.master_count) × (transfer_refusal b m t ≡ 0)
  pub late : t.held ≡ true → clocks ≤ latency_at b m t
  pub free : t.held ≡ false → clocks ≡ 0

module _ (b : Board) (st : State) where
  pub held_sound : Sound b st → (m : ℕ) → HeldSound b m (transfer_at st m) (late_at st m)
  held_sound x m = record { holds = x.holds m; late = x.late m; free = x.free m }

  pub slot_sound : Sound b st → (s : ℕ) → s < b.slave_count → SlotSound b st s (slot_at st s)
  slot_sound x s h = record {
    owner = x.owner s h;
    remaining = x.remaining s h;
    serving = λ e. let v = x.serving s h e in record { asks = v.asks; done = v.done; waited = v.waited };
    resting = x.resting s h;
  }

  -- a state is sound by its parts
  pub sound_of : length st.transfers ≡ 8 → length st.slots ≡ 16 → length st.late ≡ 8
      → ((m : ℕ) → HeldSound b m (transfer_at st m) (late_at st m))
      → ((s : ℕ) → s < b.slave_count → SlotSound b st s (slot_at st s)) → st.log.count ≤ 8 → Sound b st
  sound_of l k n f g c = record {
    transfers = l;
    slots = k;
    lates = n;
    holds = λ m q. (f m).holds q;
    late = λ m q. (f m).late q;
    free = λ m q. (f m).free q;
    owner = λ s h. (g s h).owner;
    remaining = λ s h. (g s h).remaining;
    serving = λ s h e. let v = (g s h).serving e in record { asks = v.asks; done = v.done; waited = v.waited };
    resting = λ s h. (g s h).resting;
    log = c;
  }

-- the test of a slot and the facts
module _ (b : Board) (st : State) (s : ℕ) (x : Slot) where
  -- the slot's owner serves, and its grants remain, by the tests
  abbrev kept : Bool
  kept = sound_remaining (shares_at b x.owner s) x

  abbrev serves : Bool
  serves = sound_service (requests b st s x.owner) (master_at b x.owner) (slave_at b s) (transfer_at st x.owner) x

  abbrev passes : Bool
  passes =
      sound_owner b x
      && sound_slot_by (shares_at b x.owner s) (requests b st s x.owner) (master_at b x.owner) (slave_at b s)
      (transfer_at st x.owner) x

  remaining_facts : kept ≡ true → (x.remaining ≡ 0) ⊎ (x.remaining < shares_at b x.owner s)
  unfolding sound_remaining
  remaining_facts e = go (eqb (shares_at b x.owner s) 0) refl
    where
      go : (c : Bool) → eqb (shares_at b x.owner s) 0 ≡ c → (x.remaining ≡ 0) ⊎ (x.remaining < shares_at b x.owner s)
      go true q = inl (eqb-true x.remaining 0 (rw (q, sound_remaining) at e))
      go false q = inr (ltb-true x.remaining (shares_at b x.owner s) (rw (q, sound_remaining) at e))

  remaining_test : (x.remaining ≡ 0) ⊎ (x.remaining < shares_at b x.owner s) → kept ≡ true
  unfolding sound_remaining
  remaining_test r = go (eqb (shares_at b x.owner s) 0) refl
    where
      go : (c : Bool) → eqb (shares_at b x.owner s) 0 ≡ c
          → cond c (eqb x.remaining 0) (ltb x.remaining (shares_at b x.owner s)) ≡ true
      go true q =
          let none = eqb-true (shares_at b x.owner s) 0 q in
          eq-eqb x.remaining 0
          (⊎_elim (λ (e : x.remaining ≡ 0). e) (λ (h : x.remaining < shares_at b x.owner s). omega arith) r)
      go false q =
          let shared = eqb-false (shares_at b x.owner s) 0 q in
          lt-ltb x.remaining (shares_at b x.owner s)
          (⊎_elim (λ (e : x.remaining ≡ 0). omega arith) (λ (h : x.remaining < shares_at b x.owner s). h) r)

  serves_facts : serves ≡ true → SlotServes b st s x
  unfolding sound_service
  serves_facts e =
      let left = ltb x.done (accesses (master_at b x.owner) (slave_at b s) (transfer_at st x.owner)) in
      let wait = leb x.waited (wait_of (slave_at b s) (transfer_at st x.owner)) in
      let p = both (requests b st s x.owner) (left && wait) e in
      let q = both left wait p.1 in
      record { asks = p.0; done = ltb-true _ _ q.0; waited = leb-true _ _ q.1 }

  serves_test : SlotServes b st s x → serves ≡ true
  unfolding sound_service
  serves_test v =
      rw (v.asks, lt-ltb x.done (accesses (master_at b x.owner) (slave_at b s) (transfer_at st x.owner)) v.done)
      (le-leb x.waited (wait_of (slave_at b s) (transfer_at st x.owner)) v.waited)

  slot_facts : passes ≡ true → SlotSound b st s x
  unfolding sound_owner sound_slot_by sound_service sound_rest
  slot_facts e =
      let service = cond x.serving serves (sound_rest x) in
      let p = both (sound_owner b x) (kept && service) e in
      let q = both kept service p.1 in
      record {
        owner = ltb-true x.owner b.master_count p.0;
        remaining = remaining_facts q.0;
        serving = λ on. serves_facts (rw on at q.1);
        resting = λ off.
            let r = both (eqb x.done 0) (eqb x.waited 0) (rw off at q.1) in
            (eqb-true x.done 0 r.0, eqb-true x.waited 0 r.1);
      }

  slot_test : SlotSound b st s x → passes ≡ true
  unfolding sound_owner sound_slot_by sound_rest
  slot_test v = rw (lt-ltb x.owner b.master_count v.owner, remaining_test v.remaining) (go x.serving refl)
    where
      go : (c : Bool) → x.serving ≡ c → cond c serves (sound_rest x) ≡ true
      go true q = serves_test (v.serving q)
      go false q = let r = v.resting q in rw (r.0, r.1)

-- the test of a transfer and its latency clocks, and the facts
module _ (b : Board) (m : ℕ) (t : Transfer) (late : ℕ) where
  -- what is asked of one that is held
  abbrev passes_held : Bool
  passes_held = ltb m b.master_count && (eqb (transfer_refusal b m t) 0 && leb late (latency_at b m t))

  pub held_facts : sound_held b m t late ≡ true → HeldSound b m t late
  unfolding sound_held
  held_facts e = record {
    holds = λ q. let p = parts q in (p.0, p.1);
    late = λ q. (parts q).2;
    free = λ q. eqb-true late 0 (branch q);
  }
    where
      -- the branch of the test that was made
      branch : {c : Bool} → t.held ≡ c → cond c passes_held (eqb late 0) ≡ true
      branch q = ap (λ (d : Bool). cond d passes_held (eqb late 0)) (sym q) ∙ e

      parts : t.held ≡ true → (m < b.master_count) × (transfer_refusal b m t ≡ 0) × (late ≤ latency_at b m t)
      parts q =
          let p = both (ltb m b.master_count) (eqb (transfer_refusal b m t) 0 && leb late (latency_at b m t))
          (branch q) in
          let r = both (eqb (transfer_refusal b m t) 0) (leb late (latency_at b m t)) p.1 in
          (ltb-true m b.master_count p.0, eqb-true (transfer_refusal b m t) 0 r.0, leb-true _ _ r.1)

  held_test : HeldSound b m t late → sound_held b m t late ≡ true
  unfolding sound_held
  held_test x = go t.held refl
    where
      go : (c : Bool) → t.held ≡ c → cond c passes_held (eqb late 0) ≡ true
      go true q =
          let r = x.holds q in
          rw (lt-ltb m b.master_count r.0, eq-eqb (transfer_refusal b m t) 0 r.1) (le-leb _ _ (x.late q))
      go false q = eq-eqb late 0 (x.free q)

module _ (b : Board) (st : State) where
  pub sound_facts : length st.transfers ≡ 8 → length st.slots ≡ 16 → length st.late ≡ 8 → b.slave_count ≤ 16
      → sound b st ≡ true → Sound b st
  unfolding sound sound_transfer sound_slot sound_log
  sound_facts l k n _ e =
      sound_of b st l k n (λ m. held m (ltb m 8) refl)
      (λ s h. slot_facts b st s (slot_at st s) (every_at (sound_slot b st) b.slave_count rest.0 s h))
      (leb-true st.log.count 8 rest.1)
    where
      parts : (every (sound_transfer b st) 8 ≡ true)
          × ((every (sound_slot b st) b.slave_count && sound_log st.log) ≡ true)
      parts = both (every (sound_transfer b st) 8) (every (sound_slot b st) b.slave_count && sound_log st.log) e

      rest : (every (sound_slot b st) b.slave_count ≡ true) × (sound_log st.log ≡ true)
      rest = both (every (sound_slot b st) b.slave_count) (sound_log st.log) parts.1

      held : (m : ℕ) (c : Bool) → ltb m 8 ≡ c → HeldSound b m (transfer_at st m) (late_at st m)
      held m true h = held_facts b m (transfer_at st m) (late_at st m) (every_at (sound_transfer b st) 8 parts.0 m (ltb-true m 8 h))
      held m false h =
          let none : transfer_at st m ≡ no_transfer = get_or-eq_default st.transfers no_transfer {n = m} (rw l (ltb-false m 8 h)) in
          let zero : late_at st m ≡ 0 = get_or-eq_default st.late 0 {n = m} (rw n (ltb-false m 8 h)) in
          rw (none, zero)
          (record { holds = λ q. absurd (false≢true q); late = λ q. absurd (false≢true q); free = λ q. refl })

  pub sound_test : Legal b → Sound b st → sound b st ≡ true
  unfolding sound sound_transfer sound_slot sound_log
  sound_test _ x =
      rw (
        every_all (sound_transfer b st) 8 (λ m h. held_test b m (transfer_at st m) (late_at st m) (held_sound b st x m)),
        every_all (sound_slot b st) b.slave_count (λ s h. slot_test b st s (slot_at st s) (slot_sound b st x s h)),
      )
      (le-leb st.log.count 8 x.log)

pub reset_sound : (b : Board) → Legal b → Sound b (state_at_reset b)
unfolding state_at_reset reset_state no_log
reset_sound b legal =
    sound_of b (state_at_reset b) (length-replicate 8 no_transfer) (length_table _ 16) (length-replicate {A = ℕ} 8 0)
    (λ m. record {
      holds = λ q. absurd (false≢true (rw (transfer_reset b m) at q));
      late = λ q. absurd (false≢true (rw (transfer_reset b m) at q));
      free = λ q. late_reset b m;
    })
    (λ s h. rw (slot_reset b s h legal.few_slaves) (record {
      owner = omega (arith, legal.some_master);
      remaining = inl refl;
      serving = λ q. absurd (false≢true q);
      resting = λ q. (refl, refl);
    }))
    (omega arith)

-- a master that holds the same transfer in two states, with the same latency clocks, requests alike
pub requests_same : (b : Board) (st u : State) (m s : ℕ) → transfer_at u m ≡ transfer_at st m → late_at u m ≡ late_at st m
    → requests b u s m ≡ requests b st s m
unfolding requests holds_for
requests_same b st u m s same late = rw (same, late)

-- a slot that serves goes on in a state where its owner holds the same transfer, with the same latency clocks
serves_on : (b : Board) (st u : State) (s : ℕ) (x : Slot) → transfer_at u x.owner ≡ transfer_at st x.owner
    → late_at u x.owner ≡ late_at st x.owner → SlotServes b st s x → SlotServes b u s x
serves_on b st u s x same late v = record {
  asks = requests_same b st u x.owner s same late ∙ v.asks;
  done = rw same v.done;
  waited = rw same v.waited;
}

pub post_sound : (b : Board) (st : State) (m : ℕ) (t : Transfer) → Legal b → Sound b st → m < b.master_count
    → (transfer_at st m).held ≡ false → transfer_refusal b m t ≡ 0 → t.held ≡ true → Sound b (with_transfer st m t)
post_sound b st m t legal x h free ok _ =
    sound_of b (with_transfer st m t) (transfers_with st m t ∙ x.transfers) (ap length (slots_with st m t) ∙ x.slots)
    (ap length (lates_with st m t) ∙ x.lates) (λ k. rw (late_with st m t k) (held k (ℕ_discrete k m))) slots
    (rw (log_with st m t) x.log)
  where
    posted : transfer_at (with_transfer st m t) m ≡ t
    posted = transfer_with st m t x.transfers (omega (arith, legal.few_masters))

    -- whoever posts has no latency clocks to pass
    held : (k : ℕ) → Dec (k ≡ m) → HeldSound b k (transfer_at (with_transfer st m t) k) (late_at st k)
    held k (yes e) =
        let none : late_at st m ≡ 0 = x.free m free in
        rw (e, posted, none) (record {
          holds = λ q. (h, ok);
          late = λ q. omega arith;
          free = λ q. refl;
        })
    held k (no e) = rw (transfer_with_other st m t k e) (held_sound b st x k)

    other : (s : ℕ) → s < b.slave_count → (slot_at st s).serving ≡ true → (slot_at st s).owner ≢ m
    other s l q e =
        let held = requests_held b st s (slot_at st s).owner (x.serving s l q).asks in
        true≢false (sym (rw e at held) ∙ free)

    slots : (s : ℕ) → s < b.slave_count → SlotSound b (with_transfer st m t) s (slot_at (with_transfer st m t) s)
    slots s l =
        let v = slot_sound b st x s l in
        rw (slot_with st m t s) (record {
          owner = v.owner;
          remaining = v.remaining;
          serving = λ q.
              serves_on b st (with_transfer st m t) s (slot_at st s)
              (transfer_with_other st m t (slot_at st s).owner (other s l q)) (late_with st m t (slot_at st s).owner)
              (v.serving q);
          resting = v.resting;
        })

-- a take changes the log alone
pub take_sound : (b : Board) (st : State) → Sound b st → Sound b (with_log st (without_oldest st.log))
unfolding with_log
take_sound b st x =
    sound_of b (with_log st (without_oldest st.log)) x.transfers x.slots x.lates (λ m. held_sound b st x m) slots
    (oldest_count st.log x.log)
  where
    slots : (s : ℕ) → s < b.slave_count
        → SlotSound b (with_log st (without_oldest st.log)) s (slot_at (with_log st (without_oldest st.log)) s)
    slots s l =
        let v = slot_sound b st x s l in
        record {
          owner = v.owner;
          remaining = v.remaining;
          serving = λ q.
              serves_on b st (with_log st (without_oldest st.log)) s (slot_at st s) refl refl (v.serving q);
          resting = v.resting;
        }

-- one clock of a sound state
module _ (b : Board) (st : State) (legal : Legal b) (x : Sound b st) where
  -- whoever requests is a master of the board, with a transfer that post takes
  pub requester : (s m : ℕ) → requests b st s m ≡ true → (m < b.master_count) × Accepted b m (transfer_at st m) s
  requester s m e =
      let r = x.holds m (requests_held b st s m e) in
      (r.0, accepted_at b legal m (transfer_at st m) r.1 s (requests_selects b st s m e))

  pub grant_facts : (s : ℕ) → s < b.slave_count → (j r : ℕ) → grant_at b st s ≡ grant j r
      → Grants b.master_count (requests b st s) (λ m. shares_at b m s) j r
  unfolding grant_at
  grant_facts s h j r e =
      granted_facts b.master_count (requests b st s) (λ m. shares_at b m s) (λ m. (transfer_at st m).beats)
      (record { owner = (slot_at st s).owner; remaining = (slot_at st s).remaining })
      (x.owner s h) (λ i q. (requester s i q).1.shares) (x.remaining s h) j r e

  -- after rule 1
  pub grant_sound : (s : ℕ) → s < b.slave_count → SlotSound b st s (slot_after_grant b st s)
  unfolding slot_granted slot_by arbiter_after
  grant_sound s h = go (slot_at st s).serving refl
    where
      given : (g : Option Arbiter) → grant_at b st s ≡ g → (slot_at st s).serving ≡ false → SlotSound b st s (slot_granted (slot_at st s) g)
      given (Some g) e q =
          let f = grant_facts s h g.owner g.remaining e in
          let q = requester s g.owner f.asks in
          let some = accepted_accesses b legal g.owner s (transfer_at st g.owner) q.0 q.1 in
          record {
            owner = f.within;
            remaining = inr f.left;
            serving = λ _. record { asks = f.asks; done = some; waited = omega arith };
            resting = λ p. absurd (true≢false p);
          }
      given None e q =
          record {
            owner = x.owner s h;
            remaining = inl refl;
            serving = λ p. absurd (false≢true p);
            resting = λ _. x.resting s h q;
          }

      go : (c : Bool) → (slot_at st s).serving ≡ c → SlotSound b st s (slot_after_grant b st s)
      go true q = rw (grant_serving b st s q) (slot_sound b st x s h)
      go false q = rw (grant_given b st s q) (given (grant_at b st s) refl q)

  -- a slave that carries out a last access had its owner's request
  pub last_asks : (s : ℕ) → s < b.slave_count → (step_of b st s).last ≡ true
      → requests b st s (step_of b st s).line.owner ≡ true
  last_asks s h f =
      let on = last_serving b st s f in
      rw (line_owner b st s on) ((grant_sound s h).serving on).asks

  -- who has its last access requested, and had no latency clocks to pass
  pub ended_asks : (m : ℕ) → ended b st m ≡ true → (s : ℕ) × (s < b.slave_count) × (requests b st s m ≡ true)
  ended_asks m e =
      let r = ended_by b st m e in
      (r.0, r.1, rw r.3 at (last_asks r.0 r.1 r.2))

  -- who holds an unmapped transfer has no latency clocks to pass, and no slave carries out an access of it
  module _ (m : ℕ) (e : unmapped_at b st m ≡ true) where
    pub unmapped_free : late_at st m ≡ 0
    unmapped_free =
        let few = x.late m (unmapped_held b st m e) in
        let none = latency_unmapped b m (transfer_at st m) (unmapped_is b st m e) in
        omega (arith, few, none)

    pub unmapped_ends : ended b st m ≡ false
    unmapped_ends = go (ended b st m) refl
      where
        go : (c : Bool) → ended b st m ≡ c → ended b st m ≡ false
        go true f =
            let r = ended_asks m f in
            absurd (true≢false (sym (unmapped_is b st m e) ∙ requests_mapped b st r.0 m legal r.2))
        go false f = f

    -- so nothing else finishes it
    pub unmapped_alone : completed b st m ≡ false
    unmapped_alone = uncompleted_of b st m unmapped_free unmapped_ends

    pub unmapped_late : late_after b st m ≡ 0
    unmapped_late = late_none b st m unmapped_free unmapped_ends

  -- so who has some to pass holds none that is unmapped
  pub late_mapped : (m : ℕ) → late_at st m ≢ 0 → unmapped_at b st m ≡ false
  late_mapped m h = go (unmapped_at b st m) refl
    where
      go : (c : Bool) → unmapped_at b st m ≡ c → unmapped_at b st m ≡ false
      go true e = absurd (h (unmapped_free m e))
      go false e = e

  -- who is finished has no latency clocks left
  pub finished_late : (m : ℕ) → finished b st m ≡ true → late_after b st m ≡ 0
  finished_late m f = go (unmapped_at b st m) refl
    where
      go : (c : Bool) → unmapped_at b st m ≡ c → late_after b st m ≡ 0
      go true e = unmapped_late m e
      go false e = completed_late b st m (sym (finished_mapped b st m e) ∙ f)

  -- a master that requests slave s has its last access there
  pub ended_only : (s m : ℕ) → requests b st s m ≡ true → ended b st m ≡ true
      → ((step_of b st s).last ≡ true) × ((step_of b st s).line.owner ≡ m)
  ended_only s m e f =
      let r = ended_by b st m f in
      let asks = rw r.3 at (last_asks r.0 r.1 r.2) in
      let same = requests_one b st m r.0 s legal asks e in
      rw (← same) (r.2, r.3)

  -- a requester whose last access is still to come keeps its transfer, and gets no latency clocks
  module _ (s m : ℕ) (asks : requests b st s m ≡ true) (more : ended b st m ≡ false) where
    known : m < 8
    known = omega (arith, (requester s m asks).0, legal.few_masters)

    pub asks_kept : transfer_at (state_after b st) m ≡ transfer_at st m
    asks_kept =
        let mapped = mapped_of b st m (requests_mapped b st s m legal asks) in
        transfer_after_lem b st m known
        ∙ transfer_kept b st m (unfinished_of b st m mapped (requests_free b st s m asks) more)

    pub asks_free : late_at (state_after b st) m ≡ late_at st m
    asks_free =
        let none = requests_free b st s m asks in
        late_after_lem b st m known ∙ late_none b st m none more ∙ sym none

  -- a slave that goes on serving has its owner's last access still to come
  served_on : (s : ℕ) → s < b.slave_count → (slot_after_grant b st s).serving ≡ true → (step_of b st s).last ≡ false
      → ended b st (slot_after_grant b st s).owner ≡ false
  served_on s h on f = go (ended b st (slot_after_grant b st s).owner) refl
    where
      go : (c : Bool) → ended b st (slot_after_grant b st s).owner ≡ c → ended b st (slot_after_grant b st s).owner ≡ false
      go true e = absurd (true≢false (sym (ended_only s _ ((grant_sound s h).serving on).asks e).0 ∙ f))
      go false e = e

  module _ (s : ℕ) (h : s < b.slave_count) (on : (slot_after_grant b st s).serving ≡ true) (f : (step_of b st s).last ≡ false) where
    pub served_kept : transfer_at (state_after b st) (slot_after_grant b st s).owner ≡ transfer_at st (slot_after_grant b st s).owner
    served_kept = asks_kept s _ ((grant_sound s h).serving on).asks (served_on s h on f)

    pub served_free : late_at (state_after b st) (slot_after_grant b st s).owner ≡ late_at st (slot_after_grant b st s).owner
    served_free = asks_free s _ ((grant_sound s h).serving on).asks (served_on s h on f)

  step_sound : (s : ℕ) → s < b.slave_count → SlotSound b (state_after b st) s (step_of b st s).slot
  unfolding slot_waiting slot_accessed slot_finished
  step_sound s h = go (outcome b st s)
    where
      now : SlotSound b st s (slot_after_grant b st s)
      now = grant_sound s h

      on : (done waited : ℕ) → (slot_after_grant b st s).serving ≡ true → (step_of b st s).last ≡ false
          → done < accesses_now b st s → waited ≤ wait_now b st s
          → SlotSound b (state_after b st) s (record {
            owner = (slot_after_grant b st s).owner;
            remaining = (slot_after_grant b st s).remaining;
            serving = true;
            done = done;
            waited = waited;
          })
      on done waited e f l w = record {
        owner = now.owner;
        remaining = now.remaining;
        serving = λ p.
            serves_on b st (state_after b st) s _ (served_kept s h e f) (served_free s h e f)
            (record { asks = (now.serving e).asks; done = l; waited = w });
        resting = λ p. absurd (true≢false p);
      }

      go : Outcome b st s → SlotSound b (state_after b st) s (step_of b st s).slot
      go (rests e q) =
          rw q (record {
            owner = now.owner;
            remaining = now.remaining;
            serving = λ p. absurd (true≢false (sym p ∙ e));
            resting = now.resting;
          })
      go (waiting e w q) = rw q (on _ _ e (rw q) (now.serving e).done (omega arith))
      go (works e w l q) = rw q (on _ _ e (rw q) l (omega arith))
      go (ends e w l q) =
          rw q (record {
            owner = now.owner;
            remaining = now.remaining;
            serving = λ p. absurd (false≢true p);
            resting = λ p. (refl, refl);
          })

  -- the latency clocks after the clock are no more than the transfer has, and none where it is not held
  late_fits : (m : ℕ) → (transfer_at st m).held ≡ true → late_after b st m ≤ latency_at b m (transfer_at st m)
  late_fits m held = go (ℕ_discrete (late_at st m) 0) (ended b st m) refl
    where
      go : Dec (late_at st m ≡ 0) → (c : Bool) → ended b st m ≡ c → late_after b st m ≤ latency_at b m (transfer_at st m)
      go (yes z) true e = omega (arith, late_ends b st m z e)
      go (yes z) false e = omega (arith, late_none b st m z e)
      go (no z) c e = omega (arith, late_less b st m z, x.late m held)

  late_idle : (m : ℕ) → (transfer_at st m).held ≡ false → late_after b st m ≡ 0
  late_idle m off = go (ended b st m) refl
    where
      go : (c : Bool) → ended b st m ≡ c → late_after b st m ≡ 0
      go true e =
          let r = ended_asks m e in
          absurd (true≢false (sym (requests_held b st r.0 m r.2) ∙ off))
      go false e = late_none b st m (x.free m off) e

  held_sound_after : (m : ℕ) → HeldSound b m (transfer_at (state_after b st) m) (late_at (state_after b st) m)
  held_sound_after m = record {
    holds = λ q. let same = (held_after b st m q).1 in rw same (x.holds m (rw same at q));
    late = λ q. late m (ltb m 8) refl q;
    free = λ q. free m (ltb m 8) refl (finished b st m) refl q;
  }
    where
      late : (m : ℕ) (c : Bool) → ltb m 8 ≡ c → (transfer_at (state_after b st) m).held ≡ true
          → late_at (state_after b st) m ≤ latency_at b m (transfer_at (state_after b st) m)
      late m true h q =
          let same = (held_after b st m q).1 in
          rw (same, late_after_lem b st m (ltb-true m 8 h)) (late_fits m (rw same at q))
      late m false h q = omega (arith, late_after_past b st m (ltb-false m 8 h))

      free : (m : ℕ) (c : Bool) → ltb m 8 ≡ c → (d : Bool) → finished b st m ≡ d
          → (transfer_at (state_after b st) m).held ≡ false → late_at (state_after b st) m ≡ 0
      free m true h true f q = late_after_lem b st m (ltb-true m 8 h) ∙ finished_late m f
      free m true h false f q =
          let same = transfer_after_lem b st m (ltb-true m 8 h) ∙ transfer_kept b st m f in
          late_after_lem b st m (ltb-true m 8 h) ∙ late_idle m (rw same at q)
      free m false h d f q = late_after_past b st m (ltb-false m 8 h)

  pub clock_sound : Sound b (state_after b st)
  clock_sound =
      sound_of b (state_after b st) (transfers_after b st) (slots_after b st) (lates_after b st) held_sound_after
      (λ s h. rw (slot_after_lem b st s h legal.few_slaves) (step_sound s h))
      (rw (log_after_lem b st) (log_count b st x.log))
