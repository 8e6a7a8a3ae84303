-- One clock of one slave of a sound state: what it serves stays within its owner's turn, and for a waiting master, whom the clock
-- does not serve, at least one clock less is left to wait for. Grants count as far as their master can use them.
-- Assumes nothing.
use mathlib.Core.Path.{◌≡◌, refl, sym, ap, subst, subst₃, ◌∙◌}
use mathlib.Core.Bool.{Bool, true, false, not, false≢true}
use mathlib.Core.Logic.{◌⊎◌, inl, inr, ⊎_elim, ◌≢◌}
use Prim.Native.Nat.{ℕ, suc, ◌+◌, ◌-◌, ◌≤◌, ◌<◌}
use native.Mathlib.Decide.{ℕ_discrete}
use native.Mathlib.Omega.{arith}
use Rattle.description_board.specs.declared.Board.{Board}
use Rattle.description_board.specs.Records.{master_at, slave_at}
use Rattle.description_board.specs.Legal.{Legal}
use Rattle.fabric_transfer.specs.declared.Transfer.{Transfer}
use Rattle.fabric_transfer.specs.Accesses.{latency_of}
use Rattle.fabric_arbiter.specs.Granting.{grant}
use Rattle.fabric_state.specs.declared.Slot.{Slot}
use Rattle.fabric_state.specs.declared.State.{State}
use Rattle.fabric_state.specs.declared.Step.{Step}
use Rattle.fabric_state.specs.Records.{transfer_at, slot_at, late_at}
use Rattle.fabric_state.specs.Soundness.{requests}
use Rattle.fabric_state.specs.Control.{grant_at, slot_after_grant, served, step_of, state_after}
use Rattle.fabric_state.proofs.Sound.{Sound}
use Rattle.fabric_state.proofs.CycleLaws.{left_of, left_resting, Cycle, cycle}
use Rattle.fabric_state.proofs.StepLaws.{step_rests}
use Rattle.fabric_state.proofs.StateLaws.{slot_after_lem, late_after_lem, late_ends, ended_here}
use Rattle.fabric_state.proofs.RequestLaws.{Accepted, accepted_at, requests_held, requests_selects, requests_free}
use Rattle.fabric_state.proofs.RequestLaws.{requests_latency}
use Rattle.fabric_state.proofs.SoundLaws.{grant_sound, served_kept}
use Rattle.theorem_bounds.proofs.Credit.{credit_zero}
use Rattle.theorem_bounds.proofs.Potential.{some_grant, grant_turn, grant_falls, grant_next}
use Rattle.theorem_history.proofs.OneClock.PairFigures.{shares_of, single_of, longest_of, credit_of, turn_of, pot_of}
use Rattle.theorem_history.proofs.OneClock.PairFigures.{accepted_long, long_single}
use Rattle.theorem_history.proofs.OneClock.AfterGrant.{long_at, left_in, left_at, left_now, ServesNow, Begins, AfterGrant}
use Rattle.theorem_history.proofs.OneClock.AfterGrant.{goes_on, begins, silent, after_grant}
use Rattle.theorem_history.proofs.OneClock.UsableGrants.{ahead_in, usable_in, usable_at, behind_at, beats_at, usable_behind}
use Rattle.theorem_history.proofs.OneClock.UsableGrants.{ahead_serving, ahead_resting, usable_none, usable_few}
use Rattle.theorem_history.proofs.OneClock.UsableGrants.{usable_serving, beats_single, grant_usable}

-- what is left of a transfer, with what the usable grants may last, is within the owner's turn
unfoldable pub InTurn : Board → ℕ → ℕ → ℕ → ℕ → Type 0
InTurn b s o r left = left + credit_of b s o r ≤ turn_of b s o

-- so at slave s
abbrev pub Paced : Board → State → ℕ → Type 0
Paced b st s = InTurn b s (slot_at st s).owner (usable_at b st s) (left_at b st s)

-- what master m may have to wait for at slave s: where its slot is y, and as it stands
abbrev pub pot_in : Board → State → ℕ → ℕ → Slot → ℕ
pot_in b st s m y = pot_of b s m y.owner (usable_in b st s y) (left_in b st s y)

abbrev pub pot_at : Board → State → ℕ → ℕ → ℕ
pot_at b st s m = pot_in b st s m (slot_at st s)

-- the slave serves another than m in this clock, and less is left to wait for
pub record Nearer (b : Board) (st : State) (s m K : ℕ) : Type 0 where
  pub on : (slot_after_grant b st s).serving ≡ true
  pub other : (slot_after_grant b st s).owner ≢ m
  pub some : 1 ≤ K
  pub bound : pot_at b (state_after b st) s m ≤ K - 1

-- a slave that serves after the grant goes by rules 4.8 and 4.9
step_serving : (b : Board) (st : State) (s : ℕ) → (slot_after_grant b st s).serving ≡ true
    → let slot = slot_after_grant b st s in
    step_of b st s ≡ served (master_at b slot.owner) (slave_at b s) (transfer_at st slot.owner) slot
unfolding step_of
step_serving b st s e = rw e

-- a slave that rests has nothing left
pub left_rests : (b : Board) (st : State) (s : ℕ) → (slot_at st s).serving ≡ false → left_at b st s ≡ 0
left_rests b st s e =
    let o = (slot_at st s).owner in
    left_resting (master_at b o) (slave_at b s) (transfer_at st o) (slot_at st s) e

-- the grants that a granted master can use
pub begins_usable : (b : Board) (st : State) (s : ℕ) (g : Begins b st s)
    → usable_in b st s (slot_after_grant b st s) ≡ usable_behind b st s g.master g.grants
begins_usable b st s g =
    usable_serving b st s (slot_after_grant b st s) g.on
    ∙ ap (λ (o : ℕ). usable_behind b st s o (slot_after_grant b st s).remaining) g.owner
    ∙ ap (usable_behind b st s g.master) g.remaining

-- at a grant all of the new transfer is left
pub pot_begins : (b : Board) (st : State) (s m : ℕ) (g : Begins b st s)
    → pot_in b st s m (slot_after_grant b st s)
    ≡ pot_of b s m g.master (usable_behind b st s g.master g.grants) (long_at b st s g.master)
pot_begins b st s m g =
    subst₃ (λ (o r l : ℕ). pot_in b st s m (slot_after_grant b st s) ≡ pot_of b s m o r l)
    g.owner (begins_usable b st s g) g.left refl

module _ (b : Board) (legal : Legal b) (st : State) (sound : Sound b st) (s : ℕ) (hs : s < b.slave_count) where
  abbrev masters : ℕ
  masters = b.master_count

  abbrev owner : ℕ
  owner = (slot_at st s).owner

  abbrev remaining : ℕ
  remaining = (slot_at st s).remaining

  -- of which the owner can use so many
  abbrev usable : ℕ
  usable = usable_at b st s

  -- the slot after the grant
  abbrev now : Slot
  now = slot_after_grant b st s

  -- a requester's transfer is accepted for this slave, and no longer than the quoted figures
  asks_accepted : (j : ℕ) → requests b st s j ≡ true → Accepted b j (transfer_at st j) s
  asks_accepted j q =
      accepted_at b legal j (transfer_at st j) (sound.holds j (requests_held b st s j q)).1 s (requests_selects b st s j q)

  pub asks_fit : (j : ℕ) → j < masters → requests b st s j ≡ true
      → (1 ≤ shares_of b s j)
      × (long_at b st s j ≤ longest_of b s j)
      × (beats_at b st s j ≤ 1 → long_at b st s j ≤ single_of b s j)
  asks_fit j hj q =
      let a = asks_accepted j q in (
        a.shares,
        accepted_long b legal j hj (transfer_at st j) s a,
        (λ h.
            let p = beats_single b st s j h in
            long_single (master_at b j) (slave_at b s) (transfer_at st j) p.0 p.1),
      )

  -- with a requester somebody is granted: how long anything lasts does not matter
  asks_some : (j : ℕ) → j < masters → requests b st s j ≡ true
      → (1 ≤ shares_of b s j) × (0 ≤ longest_of b s j) × ((transfer_at st j).beats ≤ 1 → 0 ≤ single_of b s j)
  asks_some j hj q = ((asks_accepted j q).shares, omega arith, λ h. omega arith)

  -- ---- the clock of a slave that serves

  after_slot : slot_at (state_after b st) s ≡ (step_of b st s).slot
  after_slot = slot_after_lem b st s hs legal.few_slaves

  pub acts : now.serving ≡ true
      → Cycle (master_at b now.owner) (slave_at b s) (transfer_at st now.owner) now (step_of b st s)
  acts on =
      let v = (grant_sound b st legal sound s hs).serving on in
      rw (step_serving b st s on)
      (cycle (master_at b now.owner) (slave_at b s) (transfer_at st now.owner) now on v.done v.waited)

  -- while it goes on, its owner keeps the transfer
  pub stays : now.serving ≡ true → (step_of b st s).slot.serving ≡ true
      → transfer_at (state_after b st) now.owner ≡ transfer_at st now.owner
  stays on e = served_kept b st legal sound s hs on ((acts on).ends ∙ ap not e)

  pub owner_after : now.serving ≡ true → (slot_at (state_after b st) s).owner ≡ now.owner
  owner_after on = ap (λ (x : Slot). x.owner) after_slot ∙ (acts on).owner

  pub remaining_after : now.serving ≡ true → (slot_at (state_after b st) s).remaining ≡ now.remaining
  remaining_after on = ap (λ (x : Slot). x.remaining) after_slot ∙ (acts on).remaining

  owner_known : now.owner < 8
  owner_known = omega (arith, (grant_sound b st legal sound s hs).owner, legal.few_masters)

  -- with its last access the latency behind it begins
  pub late_begins : now.serving ≡ true → (step_of b st s).slot.serving ≡ false
      → late_at (state_after b st) now.owner ≡ behind_at b st s now.owner
  late_begins on e =
      let asks = ((grant_sound b st legal sound s hs).serving on).asks in
      let f = ended_here b st now.owner s hs ((acts on).ends ∙ ap not e) (acts on).line in
      late_after_lem b st now.owner owner_known
      ∙ late_ends b st now.owner (requests_free b st s now.owner asks) f
      ∙ requests_latency b st s now.owner legal asks

  -- so the owner has the same latency before it
  pub ahead_after : now.serving ≡ true → ahead_in b (state_after b st) s (slot_at (state_after b st) s) ≡ ahead_in b st s now
  ahead_after on = go (step_of b st s).slot.serving refl
    where
      serving_is : (slot_at (state_after b st) s).serving ≡ (step_of b st s).slot.serving
      serving_is = ap (λ (x : Slot). x.serving) after_slot

      go : (c : Bool) → (step_of b st s).slot.serving ≡ c
          → ahead_in b (state_after b st) s (slot_at (state_after b st) s) ≡ ahead_in b st s now
      go true e =
          ahead_serving b (state_after b st) s (slot_at (state_after b st) s) (serving_is ∙ e)
          ∙ ap (behind_at b (state_after b st) s) (owner_after on)
          ∙ ap (latency_of (slave_at b s)) (stays on e)
          ∙ sym (ahead_serving b st s now on)
      go false e =
          ahead_resting b (state_after b st) s (slot_at (state_after b st) s) (serving_is ∙ e)
          ∙ ap (late_at (state_after b st)) (owner_after on)
          ∙ late_begins on e
          ∙ sym (ahead_serving b st s now on)

  pub usable_after : now.serving ≡ true → usable_at b (state_after b st) s ≡ usable_in b st s now
  unfolding usable_in
  usable_after on = rw (ahead_after on, remaining_after on)

  -- one clock less is left
  pub left_after : now.serving ≡ true → left_at b (state_after b st) s ≡ left_now b st s - 1
  left_after on =
      ap (λ (o : ℕ). left_of (master_at b o) (slave_at b s) (transfer_at (state_after b st) o) (slot_at (state_after b st) s))
      (owner_after on)
      ∙ ap (left_of (master_at b now.owner) (slave_at b s) (transfer_at (state_after b st) now.owner)) after_slot
      ∙ go (step_of b st s).slot.serving refl
      ∙ (acts on).left
    where
      go : (c : Bool) → (step_of b st s).slot.serving ≡ c
          → left_of (master_at b now.owner) (slave_at b s) (transfer_at (state_after b st) now.owner) (step_of b st s).slot
          ≡ left_of (master_at b now.owner) (slave_at b s) (transfer_at st now.owner) (step_of b st s).slot
      go true e =
          ap (λ (t : Transfer). left_of (master_at b now.owner) (slave_at b s) t (step_of b st s).slot) (stays on e)
      go false e =
          left_resting (master_at b now.owner) (slave_at b s) _ (step_of b st s).slot e
          ∙ sym (left_resting (master_at b now.owner) (slave_at b s) _ (step_of b st s).slot e)

  -- so for whoever waits one clock less is left to wait for, as counted after the grant
  pub pot_after : (m : ℕ) → now.serving ≡ true → suc (pot_at b (state_after b st) s m) ≡ pot_in b st s m now
  pot_after m on =
      ap suc
      (subst₃ (λ (o r l : ℕ). pot_at b (state_after b st) s m ≡ pot_of b s m o r l)
      (owner_after on) (usable_after on) (left_after on) refl)
      ∙ omega (arith, (acts on).some)

  -- ---- within the owner's turn

  -- a slave that rests after the grant rests after the clock, with no grants
  rests_after : now.serving ≡ false → now.remaining ≡ 0
      → (usable_at b (state_after b st) s ≡ 0) × (left_at b (state_after b st) s ≡ 0)
  rests_after off none =
      let x : slot_at (state_after b st) s ≡ now = after_slot ∙ ap (λ (y : Step). y.slot) (step_rests b st s off) in (
        usable_none b (state_after b st) s (slot_at (state_after b st) s) (ap (λ (y : Slot). y.remaining) x ∙ none),
        left_rests b (state_after b st) s (ap (λ (y : Slot). y.serving) x ∙ off),
      )

  pub pace_after : Paced b st s → Paced b (state_after b st) s
  unfolding InTurn grant_at
  pace_after p = go (after_grant b st s)
    where
      serves : now.serving ≡ true → InTurn b s now.owner (usable_in b st s now) (left_now b st s)
          → Paced b (state_after b st) s
      serves on q =
          subst₃ (InTurn b s) (sym (owner_after on)) (sym (usable_after on)) (sym (left_after on)) (omega (arith, q))

      go : AfterGrant b st s → Paced b (state_after b st) s
      go (goes_on e x) =
          serves (ap (λ (y : Slot). y.serving) x ∙ e)
          (subst (λ (y : Slot). InTurn b s y.owner (usable_in b st s y) (left_in b st s y)) (sym x) p)
      go (begins g) =
          let v = grant_sound b st legal sound s hs in
          let low = rw g.owner at v.owner in
          let asks = rw g.owner at (v.serving g.on).asks in
          serves g.on
          (subst₃ (InTurn b s) (sym g.owner) (sym (begins_usable b st s g)) (sym g.left)
          (grant_turn masters (shares_of b s) (single_of b s) (longest_of b s) (requests b st s) (beats_at b st s)
          (long_at b st s) asks_fit g.master owner usable low (sound.owner s hs) asks g.master
          (usable_behind b st s g.master g.grants)
          (grant_usable b st s g.rested g.master g.grants g.given)
          (usable_few b st s (slot_at st s) (shares_of b s owner) (sound.remaining s hs))))
      go (silent rest e off none) =
          let r = rests_after off none in
          let o = (slot_at (state_after b st) s).owner in
          omega (arith, r.1, credit_zero (single_of b s o) (longest_of b s o) (usable_at b (state_after b st) s) r.0)

  -- ---- a waiting master comes nearer

  module _ (m : ℕ) (hm : m < masters) (waiting : requests b st s m ≡ true) where
    -- passed over, the last owner m has no grants
    pub put_aside : (j k : ℕ) → grant_at b st s ≡ grant j k → j ≢ m → owner ≡ m → remaining ≡ 0
    unfolding grant_at
    put_aside j k g d e =
        ⊎_elim
        (λ h. absurd (d (h.same ∙ e)))
        (λ h. ⊎_elim (λ z. z) (λ z. absurd (false≢true (sym z ∙ ap (requests b st s) e ∙ waiting))) h.lost)
        (grant_next masters (requests b st s) (shares_of b s) (λ i. (transfer_at st i).beats) owner remaining j k g).how

    -- the clock is its first cycle, or the slave serves another and less is left to wait for
    pub nearer : (K : ℕ) → ((slot_at st s).serving ≡ true → owner ≢ m) → ((owner ≡ m → remaining ≡ 0) → pot_at b st s m ≤ K)
        → ServesNow b st s m ⊎ Nearer b st s m K
    unfolding grant_at
    nearer K off bound = go (after_grant b st s)
      where
        falls : now.serving ≡ true → now.owner ≢ m → pot_in b st s m now ≤ K → Nearer b st s m K
        falls on d h = record {
          on = on;
          other = d;
          some = omega (arith, pot_after m on, h);
          bound = omega (arith, pot_after m on, h);
        }

        granted : (g : Begins b st s) → Dec (g.master ≡ m) → ServesNow b st s m ⊎ Nearer b st s m K
        granted g (yes d) = inl (record { on = g.on; owner = g.owner ∙ d })
        granted g (no d) =
            let aside = put_aside g.master g.grants g.given d in
            let less =
            grant_falls masters (shares_of b s) (single_of b s) (longest_of b s) (requests b st s) (beats_at b st s)
            (long_at b st s) asks_fit m owner usable hm (sound.owner s hs) waiting g.master
            (usable_behind b st s g.master g.grants)
            (grant_usable b st s g.rested g.master g.grants g.given) d
            (λ e. usable_none b st s (slot_at st s) (aside e)) in
            inr
            (falls g.on (λ q. d (sym g.owner ∙ q))
            (omega (arith, less, bound aside, pot_begins b st s m g, left_rests b st s g.rested)))

        go : AfterGrant b st s → ServesNow b st s m ⊎ Nearer b st s m K
        go (goes_on e x) =
            inr
            (falls (ap (λ (y : Slot). y.serving) x ∙ e) (λ q. off e (sym (ap (λ (y : Slot). y.owner) x) ∙ q))
            (omega (arith, ap (pot_in b st s m) x, bound (λ q. absurd (off e q)))))
        go (begins g) = granted g (ℕ_discrete g.master m)
        go (silent rest e _ _) =
            absurd
            (some_grant masters (shares_of b s) (single_of b s) (longest_of b s) (requests b st s) (λ j. (transfer_at st j).beats)
            (λ j. 0) asks_some m owner remaining hm (sound.owner s hs) waiting e)
