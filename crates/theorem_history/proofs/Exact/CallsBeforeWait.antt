-- The calls before the wait: from the reset on master m is served alone at slave s, and a clock later nobody asks, so that m is
-- the last owner, with no grants.
-- Assumes nothing.
use mathlib.Core.Path.{◌≡◌, refl, sym, ap, ◌∙◌}
use mathlib.Core.Bool.{Bool, true, false, true≢false, false≢true}
use mathlib.Core.Logic.{◌⊎◌, inl, inr, ⊎_elim, ◌≢◌}
use Prim.Native.Nat.{ℕ, zero, suc, ◌-◌, ◌≤◌, ◌<◌}
use native.Mathlib.Decide.{ℕ_discrete}
use native.Mathlib.Nat.{le_refl}
use native.Mathlib.Omega.{arith}
use Rattle.std.specs.Prelude.{None}
use Rattle.description_board.specs.declared.Board.{Board}
use Rattle.description_board.specs.Records.{slave_at, shares_at}
use Rattle.description_board.specs.Items.{board_refusal}
use Rattle.description_board.specs.Legal.{Legal}
use Rattle.fabric_transfer.specs.declared.Transfer.{Transfer}
use Rattle.fabric_transfer.specs.Accesses.{latency_of}
use Rattle.fabric_arbiter.specs.Granting.{grant_to, granted, arbiter_after}
use Rattle.fabric_state.specs.declared.Slot.{Slot}
use Rattle.fabric_state.specs.declared.State.{State}
use Rattle.fabric_state.specs.declared.Step.{Step}
use Rattle.fabric_state.specs.Records.{transfer_at, slot_at, late_at}
use Rattle.fabric_state.specs.Soundness.{requests}
use Rattle.fabric_state.specs.Control.{grant_at, slot_by, slot_granted, slot_after_grant, state_after}
use Rattle.fabric_state.specs.Posting.{Request, with_transfer}
use Rattle.fabric_state.specs.Resetting.{state_at_reset}
use Rattle.fabric_calls.specs.Calls.{World}
use Rattle.fabric_state.proofs.StateLaws.{slot_after_lem, transfer_with, transfer_with_other, transfer_reset, slot_reset, late_with}
use Rattle.fabric_state.proofs.StepLaws.{grant_serving, grant_given, step_rests}
use Rattle.fabric_state.proofs.SoundLaws.{grant_sound, clock_sound}
use Rattle.fabric_state.proofs.RequestLaws.{requests_not, requests_held}
use Rattle.theorem_bounds.proofs.Order.{requester_nobody}
use Rattle.theorem_history.specs.Claim.{Start, Lent}
use Rattle.theorem_history.proofs.OneClock.AfterGrant.{left_in, left_at, left_now, ServesNow}
use Rattle.theorem_history.proofs.OneClock.UsableGrants.{behind_at}
use Rattle.theorem_history.proofs.OneClock.SlaveClock.{pot_at, left_rests, acts, owner_after, left_after, nearer}
use Rattle.theorem_history.proofs.OneClock.MasterClock.{free_after, acted}
use Rattle.theorem_history.proofs.Histories.CallCases.{with_post, with_clock}
use Rattle.theorem_history.proofs.Histories.OnePost.{Taken}
use Rattle.theorem_history.proofs.Histories.Standing.{Standing, start_state, start_stands, post_stands, clock_stands}
use Rattle.theorem_history.proofs.Exact.DueRequests.{request_for, transfer_for, first_plain, request_taken, request_asks}
use Rattle.theorem_history.proofs.Exact.BuiltHistories.{Lead, lead_here, lead_post, lead_clock}

-- nobody holds a transfer, and m was the last owner of slave s, with no grants
pub record Rested (b : Board) (s m : ℕ) (w : World) : Type 0 where
  pub stands : Standing b w
  pub free : (j : ℕ) → (transfer_at w.state j).held ≡ false
  pub serving : (slot_at w.state s).serving ≡ false
  pub owner : (slot_at w.state s).owner ≡ m
  pub remaining : (slot_at w.state s).remaining ≡ 0

-- m alone is served, with l clocks left and no latency behind them, or finished
record Alone (b : Board) (s m l : ℕ) (w : World) : Type 0 where
  stands : Standing b w
  others : (j : ℕ) → j ≢ m → (transfer_at w.state j).held ≡ false
  owner : (slot_at w.state s).owner ≡ m
  left : left_at b w.state s ≡ l
  plain : (slot_at w.state s).serving ≡ true → behind_at b w.state s m ≡ 0
  how : ((slot_at w.state s).serving ≡ true)
      ⊎ (((slot_at w.state s).serving ≡ false) × ((transfer_at w.state m).held ≡ false))

-- where nobody asks, nobody is granted
nobody_granted : (b : Board) (st : State) (s : ℕ) → ((j : ℕ) → requests b st s j ≡ false) → grant_at b st s ≡ None
unfolding grant_at granted grant_to
nobody_granted b st s f =
    rw (f (slot_at st s).owner, requester_nobody (requests b st s) b.master_count (slot_at st s).owner f)

module _ (b : Board) (legal : Legal b) (s : ℕ) (hs : s < b.slave_count) (m : ℕ) where
  -- ---- one clock

  module _ (w : World) (x : Standing b w) where
    abbrev st : State
    st = w.state

    -- it serves m
    alone_after : ((j : ℕ) → j ≢ m → (transfer_at st j).held ≡ false) → ServesNow b st s m → behind_at b st s m ≡ 0
        → Alone b s m (left_now b st s - 1) (with_clock b w)
    alone_after others now none = record {
      stands = clock_stands b legal w x;
      others = λ j d. free_after b legal st x.sound j (others j d);
      owner = owner_after b legal st x.sound s hs now.on ∙ now.owner;
      left = left_after b legal st x.sound s hs now.on;
      plain = λ q.
          ⊎_elim (λ h. ap (latency_of (slave_at b s)) h.2 ∙ none)
          (λ h.
          let a = ((clock_sound b st legal x.sound).serving s hs q).asks in
          let o : (slot_at (state_after b st) s).owner ≡ m = owner_after b legal st x.sound s hs now.on ∙ now.owner in
          absurd (true≢false (sym (requests_held b (state_after b st) s m (rw o at a)) ∙ h.1 none)))
          (acted b legal st x.sound s hs m now);
      how = go (slot_at (state_after b st) s).serving refl;
    }
      where
        go : (c : Bool) → (slot_at (state_after b st) s).serving ≡ c
            → ((slot_at (state_after b st) s).serving ≡ true)
            ⊎ (((slot_at (state_after b st) s).serving ≡ false) × ((transfer_at (state_after b st) m).held ≡ false))
        go true q = inl q
        go false q =
            ⊎_elim (λ h. absurd (true≢false (sym h.0 ∙ q))) (λ h. inr (q, h.1 none)) (acted b legal st x.sound s hs m now)

    -- nobody asks in it
    rested_after : ((j : ℕ) → (transfer_at st j).held ≡ false) → (slot_at st s).serving ≡ false → (slot_at st s).owner ≡ m
        → Rested b s m (with_clock b w)
    unfolding slot_granted slot_by arbiter_after
    rested_after free rest o = record {
      stands = clock_stands b legal w x;
      free = λ j. free_after b legal st x.sound j (free j);
      serving = ap (λ (y : Slot). y.serving) after;
      owner = ap (λ (y : Slot). y.owner) after ∙ o;
      remaining = ap (λ (y : Slot). y.remaining) after;
    }
      where
        now : slot_after_grant b st s ≡ slot_granted (slot_at st s) None
        now =
            grant_given b st s rest
            ∙ ap (slot_granted (slot_at st s)) (nobody_granted b st s (λ j. requests_not b st s j (free j)))

        after : slot_at (state_after b st) s ≡ slot_granted (slot_at st s) None
        after =
            slot_after_lem b st s hs legal.few_slaves
            ∙ ap (λ (y : Step). y.slot) (step_rests b st s (ap (λ (y : Slot). y.serving) now))
            ∙ now

    -- what is left of a slave that serves
    left_now_lem : (slot_at st s).serving ≡ true → (1 ≤ left_at b st s) × (left_now b st s ≡ left_at b st s)
    left_now_lem c =
        let k = grant_serving b st s c in
        let e = ap (left_in b st s) k in
        (omega (arith, e, (acts b legal st x.sound s hs (ap (λ (y : Slot). y.serving) k ∙ c)).some), e)

  -- ---- clock after clock

  module _ (ok : board_refusal b ≡ 0) where
    last_clock : (w : World) → Alone b s m 0 w → Lead b (Rested b s m) w
    last_clock w x =
        ⊎_elim (λ c. absurd (omega (arith, x.left, (left_now_lem w x.stands c).0)))
        (λ c.
        lead_clock b legal ok w x.stands
        (lead_here b legal ok (rested_after w x.stands (λ j. all c.1 j (ℕ_discrete j m)) c.0 x.owner)))
        x.how
      where
        all : (transfer_at w.state m).held ≡ false → (j : ℕ) → Dec (j ≡ m) → (transfer_at w.state j).held ≡ false
        all e j (yes q) = rw q e
        all e j (no q) = x.others j q

    one_clock : (l : ℕ) (w : World) → Alone b s m (suc l) w
        → (Alone b s m l (with_clock b w) → Lead b (Rested b s m) (with_clock b w)) → Lead b (Rested b s m) w
    one_clock l w x f =
        ⊎_elim
        (λ c.
        let k = grant_serving b w.state s c in
        let now : ServesNow b w.state s m =
        record { on = ap (λ (y : Slot). y.serving) k ∙ c; owner = ap (λ (y : Slot). y.owner) k ∙ x.owner } in
        let e : left_now b w.state s - 1 ≡ l = omega (arith, x.left, (left_now_lem w x.stands c).1) in
        lead_clock b legal ok w x.stands (f (rw e at (alone_after w x.stands x.others now (x.plain c)))))
        (λ c. absurd (omega (arith, x.left, left_rests b w.state s c.0)))
        x.how

    alone_lead : (l : ℕ) (w : World) → Alone b s m l w → Lead b (Rested b s m) w
    alone_lead zero w x = last_clock w x
    alone_lead (suc l) w x = one_clock l w x (alone_lead l (with_clock b w))

    -- ---- from the reset on

    module _ (hm : m < b.master_count) (has : 1 ≤ shares_at b m s) (w : World) (x : Start b w) (lent : Lent b w) where
      first : w.state ≡ state_at_reset b
      first = start_state b w x

      all_free : (j : ℕ) → (transfer_at w.state j).held ≡ false
      all_free j = rw (first, transfer_reset b j)

      rests : (slot_at w.state s).serving ≡ false
      rests = rw (first, slot_reset b s hs legal.few_slaves)

      abbrev start : Standing b w
      start = start_stands b legal w x lent

      -- m posts a single
      abbrev single : Request
      single = request_for b s m 1

      abbrev begun : World
      begun = with_post w single

      taken : Taken b w.state single
      taken = request_taken b legal s hs m hm has w.state 1 (all_free m)

      begins : Standing b begun
      begins = post_stands b legal w single start taken

      others : (j : ℕ) → j ≢ m → (transfer_at begun.state j).held ≡ false
      unfolding request_for transfer_for
      others j d = ap (λ (t : Transfer). t.held) (transfer_with_other w.state m (transfer_for b s m 1) j d) ∙ all_free j

      holds_m : transfer_at begun.state m ≡ transfer_for b s m 1
      unfolding request_for transfer_for
      holds_m =
          transfer_with w.state m (transfer_for b s m 1) start.sound.transfers (omega (arith, legal.few_masters))

      free_m : late_at begun.state m ≡ 0
      unfolding request_for transfer_for
      free_m = late_with w.state m (transfer_for b s m 1) m ∙ start.sound.free m (all_free m)

      asks : requests b begun.state s m ≡ true
      unfolding request_for transfer_for
      asks =
          request_asks b legal s hs m hm has begun.state 1 free_m holds_m

      -- the first clock serves it
      serves : ServesNow b begun.state s m
      unfolding with_transfer
      serves =
          ⊎_elim (λ h. h)
          (λ h.
          absurd
          (false≢true
          (sym (requests_not b begun.state s _ (others _ h.other))
          ∙ ((grant_sound b begun.state legal begins.sound s hs).serving h.on).asks)))
          (nearer b legal begun.state begins.sound s hs m hm asks
          (pot_at b begun.state s m) (λ e. absurd (true≢false (sym e ∙ rests))) (λ _. le_refl _))

      pub lead : Lead b (Rested b s m) w
      lead =
          lead_post b legal ok w single start taken
          (lead_clock b legal ok begun begins (alone_lead _ (with_clock b begun)
          (alone_after begun begins others serves
          (ap (latency_of (slave_at b s)) holds_m ∙ first_plain b legal s hs m hm 1 (le_refl 1)))))
