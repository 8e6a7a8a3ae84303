-- One clock where everybody connected to slave s asks for as long as it may: m is served if nothing is left to wait for, and
-- otherwise exactly one clock less is left. Who passes its latency has had its turn: it is not on the way from the last owner up to m.
-- Assumes nothing.
use mathlib.Core.Path.{◌≡◌, refl, sym, ap, ap₂, subst, ◌∙◌}
use mathlib.Core.Bool.{true, false, cond, ◌&&◌, true≢false, false≢true}
use mathlib.Core.Logic.{◌⊎◌, inl, inr, ⊎_elim, ◌≢◌}
use Prim.Native.Nat.{ℕ, zero, suc, ◌+◌, ◌-◌, ◌≤◌, ◌<◌}
use native.Mathlib.Decide.{ℕ_discrete}
use native.Mathlib.Nat.{le_of_eq}
use native.Mathlib.Omega.{arith}
use lib.Dec.{ltb, eqb}
use borrow.Author.Tests.{eq-eqb, ne_eqb, lt-ltb}
use Rattle.description_board.specs.declared.Board.{Board}
use Rattle.description_board.specs.Records.{master_at, slave_at, shares_at}
use Rattle.description_board.specs.Legal.{Legal}
use Rattle.fabric_transfer.specs.declared.Transfer.{Transfer}
use Rattle.fabric_transfer.specs.Accesses.{latency_of, own_length}
use Rattle.fabric_state.specs.declared.Slot.{Slot}
use Rattle.fabric_state.specs.declared.State.{State}
use Rattle.fabric_state.specs.Records.{transfer_at, slot_at, late_at}
use Rattle.fabric_state.specs.Soundness.{requests}
use Rattle.fabric_state.specs.Control.{grant_at, slot_after_grant, state_after}
use Rattle.fabric_state.proofs.Sound.{Sound}
use Rattle.fabric_state.proofs.RequestLaws.{requests_free}
use Rattle.fabric_state.proofs.SoundLaws.{grant_facts, clock_sound}
use Rattle.fabric_state.proofs.StepLaws.{grant_serving}
use Rattle.theorem_bounds.proofs.Credit.{spend_all, kept_some}
use Rattle.theorem_bounds.proofs.Potential.{Next, grant_next, grant_passes, grant_exactly}
use Rattle.theorem_bounds.proofs.Order.{Passed, passed_behind, passed_self}
use Rattle.theorem_history.proofs.OneClock.PairFigures.{shares_of, single_of, longest_of, credit_of, turns_between}
use Rattle.theorem_history.proofs.OneClock.AfterGrant.{long_at, ServesNow, Begins, AfterGrant, goes_on, begins, silent}
use Rattle.theorem_history.proofs.OneClock.AfterGrant.{after_grant}
use Rattle.theorem_history.proofs.OneClock.SlaveClock.{pot_in, pot_at, left_rests, pot_begins, pot_after, asks_fit}
use Rattle.theorem_history.proofs.OneClock.SlaveClock.{owner_after, remaining_after, ahead_after, put_aside, nearer}
use Rattle.theorem_history.proofs.OneClock.UsableGrants.{ahead_in, usable_at, behind_at, beats_at, usable_behind, ahead_serving}
use Rattle.theorem_history.proofs.OneClock.UsableGrants.{ahead_resting, usable_all, usable_none, beats_plain, grant_usable}
use Rattle.theorem_history.proofs.OneClock.MasterClock.{acted, kept_after, asks_after, late_freed}
use Rattle.theorem_history.proofs.Exact.DueRequests.{transfer_for, last_serve, first_single, first_plain}
use Rattle.theorem_history.proofs.Exact.DueRequests.{request_asks}

-- the grants that come after the next one of a master j with a shares, where o owns the slave with r grants
unfoldable pub spare_of : ℕ → ℕ → ℕ → ℕ → ℕ
spare_of a j o r = cond (eqb j o && ltb 0 r) (r - 1) (a - 1)

spare_again : (a j o r p : ℕ) → j ≡ o → r ≡ suc p → spare_of a j o r ≡ p
unfolding spare_of
spare_again a j o r p e f = rw (eq-eqb j o e, lt-ltb 0 r (omega arith)) (omega arith)

spare_new : (a j o r : ℕ) → (j ≡ o → r ≡ 0) → spare_of a j o r ≡ a - 1
unfolding spare_of
spare_new a j o r f = go (ℕ_discrete j o)
  where
    go : Dec (j ≡ o) → spare_of a j o r ≡ a - 1
    go (yes q) = rw (f q, eq-eqb j o q)
    go (no q) = rw (ne_eqb j o q)

-- so at slave s: what is due from master j is its request with so many grants to come
abbrev pub due_at : Board → ℕ → State → ℕ → ℕ
due_at b s st j = spare_of (shares_at b j s) j (slot_at st s).owner (slot_at st s).remaining

-- master j passes its latency, and is not on the way up to m
abbrev pub Spent : ℕ → ℕ → State → ℕ → Type 0
Spent s m st j = (late_at st j ≢ 0) × (Passed (slot_at st s).owner m j → ⊥)

-- master j is in service, or asks for what is due, or has had its turn
abbrev pub Has : Board → ℕ → ℕ → State → ℕ → Type 0
Has b s m st j =
    (((slot_at st s).serving ≡ true) × ((slot_at st s).owner ≡ j))
    ⊎ (((late_at st j ≡ 0) × (transfer_at st j ≡ transfer_for b s j (due_at b s st j))) ⊎ Spent s m st j)

-- m waits, with D clocks to wait for; whoever is connected holds nothing, is in service, asks for what is due or has had its turn. What
-- serves with grants remaining has no latency behind it, and who has grants remaining has none to pass
pub record Tracked (b : Board) (s m D : ℕ) (st : State) : Type 0 where
  pub sound : Sound b st
  pub asks : requests b st s m ≡ true
  pub aside : (slot_at st s).owner ≡ m → ((slot_at st s).serving ≡ false) × ((slot_at st s).remaining ≡ 0)
  pub count : pot_at b st s m ≡ D
  pub owes : (j : ℕ) → j < b.master_count → 1 ≤ shares_at b j s → ((transfer_at st j).held ≡ false) ⊎ Has b s m st j
  pub plain : 1 ≤ (slot_at st s).remaining → ahead_in b st s (slot_at st s) ≡ 0

-- and now nobody connected holds nothing
pub record Ready (b : Board) (s m D : ℕ) (st : State) : Type 0 where
  pub tracked : Tracked b s m D st
  pub full : (j : ℕ) → j < b.master_count → 1 ≤ shares_at b j s → Has b s m st j

module _
    (b : Board) (legal : Legal b) (s : ℕ) (hs : s < b.slave_count) (m : ℕ) (hm : m < b.master_count) (D : ℕ) (st : State)
    (x : Ready b s m D st)
  where
    abbrev safe : Sound b st
    safe = x.tracked.sound

    abbrev owner : ℕ
    owner = (slot_at st s).owner

    abbrev remaining : ℕ
    remaining = (slot_at st s).remaining

    -- all of which its owner can use
    usable_is : usable_at b st s ≡ remaining
    usable_is = go remaining refl
      where
        go : (r : ℕ) → remaining ≡ r → usable_at b st s ≡ remaining
        go zero e = usable_none b st s (slot_at st s) e ∙ sym e
        go (suc r) e = usable_all b st s (slot_at st s) (x.tracked.plain (omega arith))

    abbrev now : Slot
    now = slot_after_grant b st s

    off : (slot_at st s).serving ≡ true → owner ≢ m
    off e q = true≢false (sym e ∙ (x.tracked.aside q).0)

    -- the slave serves in this clock
    on : now.serving ≡ true
    on =
        ⊎_elim (λ h. h.on) (λ h. h.on)
        (nearer b legal st safe s hs m hm x.tracked.asks D off (λ _. le_of_eq x.tracked.count))

    -- ---- a grant in this clock

    module _ (g : Begins b st s) where
      -- who asks holds what is due
      due_asks : (j : ℕ) → j < b.master_count → requests b st s j ≡ true
          → transfer_at st j ≡ transfer_for b s j (due_at b s st j)
      due_asks j hj q =
          ⊎_elim (λ h. absurd (true≢false (sym h.0 ∙ g.rested)))
          (⊎_elim (λ e. e.1) (λ h. absurd (h.0 (requests_free b st s j q))))
          (x.full j hj (asks_fit b legal st safe s hs j hj q).0)

      -- and who is connected on the way up to m, or has grants, asks
      asks_due : (j : ℕ) → j < b.master_count → 1 ≤ shares_at b j s → (Spent s m st j → ⊥) → requests b st s j ≡ true
      asks_due j hj has off =
          ⊎_elim (λ h. absurd (true≢false (sym h.0 ∙ g.rested)))
          (⊎_elim (λ e. request_asks b legal s hs j hj has st (due_at b s st j) e.0 e.1) (λ h. absurd (off h)))
          (x.full j hj has)

      owner_asks : 1 ≤ usable_at b st s → requests b st s owner ≡ true
      owner_asks some =
          let more : 1 ≤ remaining = omega (arith, usable_is, some) in
          let free : late_at st owner ≡ 0 = sym (ahead_resting b st s (slot_at st s) g.rested) ∙ x.tracked.plain more in
          let has : 1 ≤ shares_at b owner s =
          ⊎_elim (λ z. absurd (omega (arith, z, more))) (λ l. omega (arith, l)) (safe.remaining s hs) in
          asks_due owner (safe.owner s hs) has (λ h. h.0 free)

      -- it uses up its master's grants
      all_used : (j k : ℕ) → j < b.master_count → requests b st s j ≡ true
          → (n : Next b.master_count (requests b st s) (shares_of b s) (beats_at b st s) owner (usable_at b st s) j k)
          → long_at b st s j + credit_of b s j k ≡ credit_of b s j (suc n.left)
      all_used j k hj q n =
          let p = n.left in
          let e = due_asks j hj q ∙ ap (transfer_for b s j) due in
          ap (λ (z : ℕ). long_at b st s j + credit_of b s j z) n.remains
          ∙ spend_all (single_of b s j) (longest_of b s j) (beats_at b st s j) (long_at b st s j) p
          (λ z. ap (own_length (master_at b j) (slave_at b s)) e ∙ last_serve b legal s hs j hj p z)
          (λ h.
          let one = first_single b legal s hs j hj p h in
          let none = ap (latency_of (slave_at b s)) e ∙ first_plain b legal s hs j hj p h in (
            ap (own_length (master_at b j) (slave_at b s)) e ∙ one.0,
            omega (arith, beats_plain b st s j none, ap (λ (t : Transfer). t.beats) e, one.1),
          ))
        where
          due : due_at b s st j ≡ n.left
          due =
              ⊎_elim
              (λ h. spare_again (shares_at b j s) j owner remaining n.left h.same (sym usable_is ∙ h.had))
              (λ h.
              spare_new (shares_at b j s) j owner remaining
              (λ e.
              ⊎_elim (λ z. sym usable_is ∙ z) (λ z. absurd (false≢true (sym z ∙ ap (requests b st s) (sym e) ∙ q))) h.lost)
              ∙ sym h.fresh)
              n.how

      granted_exactly : ((g.master ≡ m) × (credit_of b s owner (usable_at b st s) + turns_between b s owner m ≡ 0))
          ⊎ ((g.master ≢ m)
          × (long_at b st s g.master + credit_of b s g.master (usable_behind b st s g.master g.grants)
          + turns_between b s g.master m
          ≡ credit_of b s owner (usable_at b st s) + turns_between b s owner m))
      granted_exactly =
          let a = grant_facts b st legal safe s hs g.master g.grants g.given in
          grant_exactly b.master_count (shares_of b s) (single_of b s) (longest_of b s) (requests b st s)
          (beats_at b st s) (long_at b st s) (asks_fit b legal st safe s hs)
          m owner (usable_at b st s) hm (safe.owner s hs) x.tracked.asks g.master
          (usable_behind b st s g.master g.grants) (grant_usable b st s g.rested g.master g.grants g.given)
          (λ i hi p has. asks_due i hi has (λ h. h.1 p)) owner_asks
          (all_used g.master (usable_behind b st s g.master g.grants) a.within a.asks)
          (λ e. usable_none b st s (slot_at st s) (x.tracked.aside e).1)

      -- the granted master is the last owner again, or passed on the way up to m
      granted_passes : g.master ≢ m → (g.master ≡ owner) ⊎ Passed owner m g.master
      granted_passes =
          grant_passes b.master_count (shares_of b s) (single_of b s) (longest_of b s) (requests b st s)
          (beats_at b st s) (long_at b st s) (asks_fit b legal st safe s hs)
          m owner (usable_at b st s) hm (safe.owner s hs) x.tracked.asks g.master
          (usable_behind b st s g.master g.grants) (grant_usable b st s g.rested g.master g.grants g.given)

      -- a transfer with grants left behind it has no latency
      granted_plain : 1 ≤ g.grants → behind_at b st s g.master ≡ 0
      unfolding grant_at
      granted_plain some =
          let a = grant_facts b st legal safe s hs g.master g.grants g.given in
          let n = grant_next b.master_count (requests b st s) (shares_of b s) (λ i. (transfer_at st i).beats) owner remaining
          g.master g.grants g.given in
          let e = due_asks g.master a.within a.asks in
          let left : 1 ≤ n.left = kept_some (transfer_at st g.master).beats n.left (omega (arith, n.remains, some)) in
          ap (latency_of (slave_at b s)) e
          ∙ first_plain b legal s hs g.master a.within (due_at b s st g.master) (omega (arith, due n, left))
        where
          due : (n : Next b.master_count (requests b st s) (shares_of b s) (λ i. (transfer_at st i).beats) owner remaining
              g.master g.grants) → due_at b s st g.master ≡ n.left
          due n =
              let a = grant_facts b st legal safe s hs g.master g.grants g.given in
              ⊎_elim
              (λ h. spare_again (shares_at b g.master s) g.master owner remaining n.left h.same h.had)
              (λ h.
              spare_new (shares_at b g.master s) g.master owner remaining
              (λ e.
              ⊎_elim (λ z. z) (λ z. absurd (false≢true (sym z ∙ ap (requests b st s) (sym e) ∙ a.asks))) h.lost)
              ∙ sym h.fresh)
              n.how

    -- ---- what is left to wait for

    -- as counted after the grant: nothing for m itself, as much as before where another is served
    pot_now : ((now.owner ≡ m) × (D ≡ 0)) ⊎ ((now.owner ≢ m) × (pot_in b st s m now ≡ D))
    pot_now = go (after_grant b st s)
      where
        go : AfterGrant b st s → ((now.owner ≡ m) × (D ≡ 0)) ⊎ ((now.owner ≢ m) × (pot_in b st s m now ≡ D))
        go (goes_on e k) =
            inr ((λ q. off e (sym (ap (λ (y : Slot). y.owner) k) ∙ q)), ap (pot_in b st s m) k ∙ x.tracked.count)
        go (begins g) =
            let z = left_rests b st s g.rested in
            ⊎_elim
            (λ h. inl (g.owner ∙ h.0, omega (arith, z, h.1, x.tracked.count)))
            (λ h.
            inr (
              (λ q. h.0 (sym g.owner ∙ q)),
              omega (arith, z, h.1, pot_begins b st s m g, x.tracked.count),
            ))
            (granted_exactly g)
        go (silent rest e none _) = absurd (true≢false (sym on ∙ none))

    pub serves_mine : D ≡ 0 → ServesNow b st s m
    serves_mine e = record {
      on = on;
      owner =
          ⊎_elim (λ h. h.0) (λ h. absurd (omega (arith, pot_after b legal st safe s hs m on, h.1))) pot_now;
    }

    pub serves_other : 1 ≤ D → now.owner ≢ m
    serves_other l = ⊎_elim (λ h. absurd (omega (arith, h.1))) (λ h. h.0) pot_now

    falls : now.owner ≢ m → suc (pot_at b (state_after b st) s m) ≡ D
    falls d = ⊎_elim (λ h. absurd (d h.0)) (λ h. pot_after b legal st safe s hs m on ∙ h.1) pot_now

    -- ---- what is due after the clock

    -- who is not on the way up to m stays so: the owner goes up
    passed_after : now.owner ≢ m → (j : ℕ) → Passed (slot_at (state_after b st) s).owner m j → Passed owner m j
    passed_after d j p =
        go (after_grant b st s) (subst (λ (o : ℕ). Passed o m j) (owner_after b legal st safe s hs on) p)
      where
        go : AfterGrant b st s → Passed now.owner m j → Passed owner m j
        go (goes_on c k) h = subst (λ (o : ℕ). Passed o m j) (ap (λ (y : Slot). y.owner) k) h
        go (begins g) h =
            let h' : Passed g.master m j = subst (λ (o : ℕ). Passed o m j) g.owner h in
            ⊎_elim (λ e. subst (λ (o : ℕ). Passed o m j) e h') (λ p. passed_behind owner m g.master j p h')
            (granted_passes g (λ e. d (g.owner ∙ e)))
        go (silent rest c none _) h = absurd (true≢false (sym on ∙ none))

    -- from who is not served: the same
    module _ (j : ℕ) (hj : j < b.master_count) (has : 1 ≤ shares_at b j s) (q : now.owner ≢ j) (free : late_at st j ≡ 0)
        (e : transfer_at st j ≡ transfer_for b s j (due_at b s st j)) where
      asks_here : requests b st s j ≡ true
      asks_here = request_asks b legal s hs j hj has st (due_at b s st j) free e

      due_same : due_at b s (state_after b st) j ≡ due_at b s st j
      due_same = go (after_grant b st s)
        where
          o : (slot_at (state_after b st) s).owner ≡ now.owner
          o = owner_after b legal st safe s hs on

          go : AfterGrant b st s → due_at b s (state_after b st) j ≡ due_at b s st j
          go (goes_on c k) =
              ap₂ (spare_of (shares_at b j s) j) (o ∙ ap (λ (y : Slot). y.owner) k)
              (remaining_after b legal st safe s hs on ∙ ap (λ (y : Slot). y.remaining) k)
          go (begins g) =
              let other : g.master ≢ j = λ d. q (g.owner ∙ d) in
              let aside = put_aside b legal st safe s hs j hj asks_here g.master g.grants g.given other in
              spare_new (shares_at b j s) j _ (slot_at (state_after b st) s).remaining (λ z. absurd (q (sym o ∙ sym z)))
              ∙ sym (spare_new (shares_at b j s) j owner remaining (λ z. aside (sym z)))
          go (silent rest c none _) = absurd (true≢false (sym on ∙ none))

      keeps_due : (late_at (state_after b st) j ≡ 0)
          × (transfer_at (state_after b st) j ≡ transfer_for b s j (due_at b s (state_after b st) j))
      keeps_due = (
        requests_free b (state_after b st) s j (asks_after b legal st safe s hs j asks_here (λ _. q)),
        kept_after b legal st safe s hs j asks_here (λ _. q) ∙ e ∙ ap (transfer_for b s j) (sym due_same),
      )

    -- from who passes its latency: nothing as long as it does
    spent_after : now.owner ≢ m → (j : ℕ) → Spent s m st j
        → ((transfer_at (state_after b st) j).held ≡ false) ⊎ Has b s m (state_after b st) j
    spent_after d j h = go (ℕ_discrete (late_at (state_after b st) j) 0)
      where
        go : Dec (late_at (state_after b st) j ≡ 0)
            → ((transfer_at (state_after b st) j).held ≡ false) ⊎ Has b s m (state_after b st) j
        go (yes z) = inl (late_freed b legal st safe j h.0 z)
        go (no z) = inr (inr (inr (z, (λ p. h.1 (passed_after d j p)))))

    -- from who is served and has its last access: nothing, if it has no latency
    ended_owes : (j : ℕ) → now.owner ≡ j → late_at (state_after b st) j ≡ behind_at b st s j
        → (behind_at b st s j ≡ 0 → (transfer_at (state_after b st) j).held ≡ false)
        → ((transfer_at (state_after b st) j).held ≡ false) ⊎ Has b s m (state_after b st) j
    ended_owes j q e f = go (ℕ_discrete (behind_at b st s j) 0)
      where
        go : Dec (behind_at b st s j ≡ 0) → ((transfer_at (state_after b st) j).held ≡ false) ⊎ Has b s m (state_after b st) j
        go (yes z) = inl (f z)
        go (no z) =
            let o = owner_after b legal st safe s hs on ∙ q in
            inr (inr (inr ((λ y. z (sym e ∙ y)), (λ p. passed_self j m (subst (λ (i : ℕ). Passed i m j) o p)))))

    owes_after : now.owner ≢ m → (j : ℕ) → j < b.master_count → 1 ≤ shares_at b j s
        → ((transfer_at (state_after b st) j).held ≡ false) ⊎ Has b s m (state_after b st) j
    owes_after d j hj has = go (ℕ_discrete now.owner j)
      where
        go : Dec (now.owner ≡ j) → ((transfer_at (state_after b st) j).held ≡ false) ⊎ Has b s m (state_after b st) j
        go (yes q) =
            ⊎_elim (λ h. inr (inl (h.0, h.1))) (λ h. ended_owes j q h.0 h.1)
            (acted b legal st safe s hs j (record { on = on; owner = q }))
        go (no q) =
            ⊎_elim (λ h. absurd (q (ap (λ (y : Slot). y.owner) (grant_serving b st s h.0) ∙ h.1)))
            (⊎_elim (λ h. inr (inr (inl (keeps_due j hj has q h.0 h.1)))) (λ h. spent_after d j h))
            (x.full j hj has)

    -- with grants remaining there is no latency before the owner
    plain_now : 1 ≤ now.remaining → ahead_in b st s now ≡ 0
    plain_now some = go (after_grant b st s)
      where
        go : AfterGrant b st s → ahead_in b st s now ≡ 0
        go (goes_on c k) =
            ap (ahead_in b st s) k ∙ x.tracked.plain (omega (arith, ap (λ (y : Slot). y.remaining) k, some))
        go (begins g) =
            ahead_serving b st s now on ∙ ap (behind_at b st s) g.owner
            ∙ granted_plain g (omega (arith, g.remaining, some))
        go (silent rest c none _) = absurd (true≢false (sym on ∙ none))

    pub tracked_after : (D' : ℕ) → D ≡ suc D' → Tracked b s m D' (state_after b st)
    tracked_after D' e =
        let d = serves_other (omega arith) in
        record {
          sound = clock_sound b st legal safe;
          asks = asks_after b legal st safe s hs m x.tracked.asks (λ _. d);
          aside = λ q. absurd (d (sym (owner_after b legal st safe s hs on) ∙ q));
          count = omega (arith, falls d);
          owes = owes_after d;
          plain = λ some.
              ahead_after b legal st safe s hs on
              ∙ plain_now (omega (arith, remaining_after b legal st safe s hs on, some));
        }
