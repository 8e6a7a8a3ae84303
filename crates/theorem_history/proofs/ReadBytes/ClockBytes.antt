-- One clock against the byte memory: what is true before it of every slave, and of every master that passes latency clocks, is
-- true after it, and who is finished by it as a read of a slave has brought the bytes that its step gave (rule 6.9).
-- Assumes nothing.
use mathlib.Core.Path.{◌≡◌, refl, ap, ◌∙◌, sym, subst}
use mathlib.Core.Bool.{Bool, true, false, cond, ◌&&◌, true≢false, false≢true}
use mathlib.Core.Logic.{⊎_elim, ◌≢◌}
use Prim.Native.Nat.{ℕ, zero, suc, ◌+◌, ◌≤◌, ◌<◌}
use native.Mathlib.Decide.{ℕ_discrete}
use native.Mathlib.Omega.{arith}
use lib.Dec.{eqb}
use lib.ListN.{take, drop}
use borrow.Author.Tests.{ne_eqb, lt-ltb, le-ltb}
use Rattle.description_board.specs.declared.Board.{Board}
use Rattle.description_board.specs.Records.{start_of}
use Rattle.description_board.specs.Legal.{Legal}
use Rattle.fabric_transfer.specs.declared.Transfer.{Transfer}
use Rattle.fabric_transfer.specs.Bytes.{Store, part_of}
use Rattle.fabric_transfer.proofs.MoveLaws.{less_or}
use Rattle.fabric_transfer.proofs.Ranges.{Agree}
use Rattle.fabric_state.specs.declared.Slot.{Slot}
use Rattle.fabric_state.specs.declared.State.{State}
use Rattle.fabric_state.specs.Records.{slot_at, late_at}
use Rattle.fabric_state.specs.Soundness.{unmapped_at}
use Rattle.fabric_state.specs.Control.{slot_after_grant, waits, slot_waiting, slot_accessed, slot_finished, step_of, ended, finished}
use Rattle.fabric_state.specs.Control.{state_after, lines_of}
use Rattle.fabric_state.specs.Carrying.{carries_out, carried, carried_by, store_after}
use Rattle.fabric_state.proofs.Sound.{Sound}
use Rattle.fabric_state.proofs.StateLaws.{slot_after_lem, late_after_lem, late_after_past, late_none, ended_by, ended_here, finished_ended}
use Rattle.fabric_state.proofs.StepLaws.{Outcome, rests, waiting, works, ends, outcome, wait_now, accesses_now, line_owner}
use Rattle.fabric_state.proofs.StepLaws.{carries_is, last_serving}
use Rattle.fabric_state.proofs.SoundLaws.{served_kept, served_free}
use Rattle.theorem_history.specs.Claim.{Reference, bytes_in, Order, seen_all}
use Rattle.theorem_history.proofs.ReadBytes.LineOrders.{steps, sweep, numbers, steps_none, steps_next, times_numbers}
use Rattle.theorem_history.proofs.ReadBytes.TransferBytes.{end_of, accesses_at, Done, served_ends}
use Rattle.theorem_history.proofs.ReadBytes.SlaveBytes.{Wants, Right, GoesOn, right_accesses, right_passes}
use Rattle.theorem_history.proofs.ReadBytes.SlaveBytes.{right_other_accesses}
use Rattle.theorem_history.proofs.ReadBytes.ActiveTransfers.{active_at, active_same, active_after, active_unended, lies}
use Rattle.theorem_history.proofs.ReadBytes.ActiveTransfers.{owner_active, owner_wants, some_left, carries_serving}
use Rattle.theorem_history.proofs.ReadBytes.ActiveTransfers.{carried_access_lem, carried_none}
use Rattle.theorem_history.proofs.ReadBytes.ClearedBytes.{cleared_right}
use Rattle.theorem_history.proofs.ReadBytes.FirstCycles.{Slaves, first_cycles}
use Rattle.theorem_history.proofs.ReadBytes.LateBytes.{Brought, Latent, brought_done, brought_late}

-- what is true between calls of every slave, and of every master that passes latency clocks
pub record Agreed (b : Board) (st : State) (d : Store) (r : Reference) : Type 0 where
  pub slaves : Slaves b st (slot_at st) d r
  pub latent : Latent b st d r

-- the slot of slave k where its access of this clock is carried out, and not yet judged whether it is the last
unfoldable slot_carried : Board → State → ℕ → Slot
slot_carried b st k =
    cond (carries_out b st k) (slot_accessed (slot_after_grant b st k)) (slot_after_grant b st k)

carried_steps : (b : Board) (st : State) (n : ℕ) (d : Store) → carried_by b st n d ≡ steps (carried b st) (numbers n) d
unfolding carried_by
carried_steps b st zero d = sym (steps_none (carried b st) d)
carried_steps b st (suc n) d = ap (carried b st n) (carried_steps b st n d) ∙ sym (steps_next (carried b st) n d)

module _ (b : Board) (legal : Legal b) (st : State) (sound : Sound b st) where
  -- the slot of slave k after the grant
  abbrev now : ℕ → Slot
  now k = slot_after_grant b st k

  -- ---- the accesses of a clock

  module _ (k : ℕ) (below : k < b.slave_count) where
    access : (d : Store) (r : Reference) → Right b (active_at st) d r k (now k)
        → Right b (active_at st) (carried b st k d) r k (slot_carried b st k)
    unfolding slot_carried
    access d r c = go (carries_out b st k) refl
      where
        go : (p : Bool) → carries_out b st k ≡ p
            → Right b (active_at st) (carried b st k d) r k (slot_carried b st k)
        go false e = rw (carried_none b legal st sound k below d e, e) c
        go true e =
            let on = carries_serving b legal st sound k below e in
            rw (carried_access_lem b legal st sound k below d e, e)
            (right_accesses b (active_at st) k (λ m. lies b legal st sound m k) d r (now k) on
            (some_left b legal st sound k below on) c)

    other_access : (d : Store) (r : Reference) (j : ℕ) → k ≢ j → (x : Slot) → Right b (active_at st) d r j x
        → Right b (active_at st) (carried b st k d) r j x
    other_access d r j h x f = go (carries_out b st k) refl
      where
        go : (p : Bool) → carries_out b st k ≡ p → Right b (active_at st) (carried b st k d) r j x
        go false e = rw (carried_none b legal st sound k below d e) f
        go true e =
            let o = (now k).owner in
            let on = carries_serving b legal st sound k below e in
            let w = owner_wants b legal st sound k below on in
            rw (carried_access_lem b legal st sound k below d e)
            (right_other_accesses b (active_at st) j (λ m. lies b legal st sound m j) k o h w (lies b legal st sound o k w) d r x f
            (now k).done (some_left b legal st sound k below on))

  accesses_all : (d : Store) (r : Reference) → Slaves b st (slot_after_grant b st) d r
      → Slaves b st (slot_carried b st) (carried_by b st b.slave_count d) r
  accesses_all d r c k h =
      let n = b.slave_count in
      rw (carried_steps b st n d)
      (sweep (λ i e. (i < n) × Right b (active_at st) e r i (now i))
      (λ i e. i < n → Right b (active_at st) e r i (slot_carried b st i)) (carried b st)
      (λ i e p a. access i a e r p.1)
      (λ i j ne e p. (
        λ x. (x.0, other_access i p.0 e r j ne (now j) x.1),
        λ x a. other_access i p.0 e r j ne (slot_carried b st j) (x a),
      ))
      n (numbers n) (times_numbers n) d (λ i a. (a, c i a)) (λ i a l. absurd (omega arith)) k h)

  -- ---- the state after the clock

  module _ (k : ℕ) (below : k < b.slave_count) where
    carried_rests : (now k).serving ≡ false → slot_carried b st k ≡ now k
    unfolding slot_carried
    carried_rests e = rw (carries_is b st k, e)

    carried_waits : (now k).serving ≡ true → (now k).waited < wait_now b st k → slot_carried b st k ≡ now k
    unfolding slot_carried waits
    carried_waits e h = rw (carries_is b st k, e, lt-ltb (now k).waited (wait_now b st k) h)

    carried_out : (now k).serving ≡ true → wait_now b st k ≤ (now k).waited → slot_carried b st k ≡ slot_accessed (now k)
    unfolding slot_carried waits
    carried_out e h = rw (carries_is b st k, e, le-ltb (now k).waited (wait_now b st k) h)

    right_at : {d : Store} {r : Reference} {x y : Slot} → x ≡ y → Right b (active_at st) d r k x
        → Right b (active_at st) d r k y
    right_at e c = rw e at c

    -- the last access is carried out
    all_done : (d : Store) (r : Reference) → (now k).serving ≡ true → wait_now b st k ≤ (now k).waited
        → accesses_now b st k ≤ (now k).done + 1 → Right b (active_at st) d r k (slot_carried b st k)
        → Done b d r k (now k).owner (active_at st (now k).owner)
    unfolding slot_accessed
    all_done d r e h l c =
        let o = (now k).owner in
        let w = owner_wants b legal st sound k below e in
        let last : accesses_at b k o (active_at st o) ≤ (now k).done + 1 = rw (owner_active b legal st sound k below e) l in
        served_ends b k o (active_at st o) (lies b legal st sound o k w) ((now k).done + 1) d r
        (omega (arith, last, some_left b legal st sound k below e)) ((right_at (carried_out e h) c).serves refl)

    passes : (d : Store) (r : Reference) → Right b (active_at st) d r k (slot_carried b st k)
        → Right b (active_at (state_after b st)) d r k (slot_at (state_after b st) k)
    unfolding slot_waiting slot_accessed slot_finished
    passes d r c = rw (slot_after_lem b st k below legal.few_slaves) (go (outcome b st k))
      where
        then : ℕ → Transfer
        then = active_at (state_after b st)

        -- a slave that goes on keeps its owner's transfer
        goes_on : (now k).serving ≡ true → (step_of b st k).last ≡ false → then (now k).owner ≡ active_at st (now k).owner
        goes_on e f =
            active_same st (state_after b st) (now k).owner (served_kept b st legal sound k below e f)
            (served_free b st legal sound k below e f)

        pass : (y z : Slot) → slot_carried b st k ≡ y
            → ((m : ℕ) → Wants b m k (then m) → (y.serving && eqb y.owner m) ≡ (z.serving && eqb z.owner m))
            → (z.serving ≡ true → GoesOn (then y.owner) (active_at st y.owner) y z)
            → (z.serving ≡ false → Agree (start_of b k) (end_of b k) d.memory r.bytes)
            → Right b then d r k z
        pass y z e f g h =
            right_passes b (active_at st) k (λ m. lies b legal st sound m k) then (active_after b st) d r y z f g h
            (rw e at c)

        go : Outcome b st k → Right b then d r k (step_of b st k).slot
        go (rests e q) =
            rw q
            (pass (now k) (now k) (carried_rests e) (λ m w. refl) (λ v. absurd (true≢false (sym v ∙ e)))
            (right_at (carried_rests e) c).rests)
        go (waiting e h q) =
            let kept = goes_on e (rw q) in
            rw q
            (pass (now k) (slot_waiting (now k)) (carried_waits e h) (λ m w. rw e)
            (λ v. record { serving = e; owner = refl; done = refl; transfer = kept }) (λ v. absurd (true≢false v)))
        go (works e h l q) =
            let y = slot_accessed (now k) in
            let kept = goes_on e (rw q) in
            rw q
            (pass y y (carried_out e h) (λ m w. refl)
            (λ v. record { serving = refl; owner = refl; done = refl; transfer = kept }) (λ v. absurd (true≢false v)))
        go (ends e h l q) =
            rw q
            (pass (slot_accessed (now k)) (slot_finished (now k)) (carried_out e h)
            (λ m w.
            ne_eqb (now k).owner m
            (λ i. active_unended b st m w.held (ended_here b st m k below (rw q) (line_owner b st k e ∙ i))))
            (λ v. absurd (false≢true v)) (λ v. (all_done d r e h l c).range))

    -- who has its last access has had all
    finish : (d : Store) (r : Reference) → Right b (active_at st) d r k (slot_carried b st k) → (step_of b st k).last ≡ true
        → Done b d r k (now k).owner (active_at st (now k).owner)
    finish d r c f = go (outcome b st k)
      where
        go : Outcome b st k → Done b d r k (now k).owner (active_at st (now k).owner)
        go (rests e q) = absurd (false≢true (rw q at f))
        go (waiting e h q) = absurd (false≢true (rw q at f))
        go (works e h l q) = absurd (false≢true (rw q at f))
        go (ends e h l q) = all_done d r e h l c

  -- ---- the clock whole

  module _ (order : Order) (d : Store) (r : Reference) (c : Agreed b st d r) where
    abbrev told : Reference
    told = seen_all b order.slaves (lines_of b st) r

    abbrev then : Store
    then = store_after b st d

    -- every access of the clock is carried out, and the words of unmapped reads are cleared
    after_accesses : Slaves b st (slot_carried b st) then told
    unfolding store_after
    after_accesses k h =
        cleared_right b legal st sound (carried_by b st b.slave_count d) told k (slot_carried b st k)
        (accesses_all d told (first_cycles b legal st sound order d r c.slaves) k h)

    -- the last access of master m is carried out
    brought_ended : (m : ℕ) → ended b st m ≡ true → Brought b then told m
    brought_ended m f =
        let x = ended_by b st m f in
        let k = x.0 in
        let on = last_serving b st k x.2 in
        let o = (now k).owner in
        let right = after_accesses k x.1 in
        let w = owner_wants b legal st sound k x.1 on in
        subst (Brought b then told) (sym (line_owner b st k on) ∙ x.3)
        (brought_done b k o (active_at st o) (lies b legal st sound o k w) then told (right.asked o w) w
        (finish k x.1 then told right x.2))

    -- or was carried out in an earlier clock
    brought_before : (m : ℕ) → late_at st m ≢ 0 → Brought b then told m
    unfolding Latent
    brought_before m h = brought_late b legal st sound m h order.slaves d r (c.latent m h)

    latent_after : Latent b (state_after b st) then told
    unfolding Latent
    latent_after m h = go (ℕ_discrete (late_at st m) 0) (ended b st m) refl
      where
        known : m < 8
        known =
            ⊎_elim (λ (l : m < 8). l) (λ (l : 8 ≤ m). absurd (h (late_after_past b st m l))) (less_or m 8)

        go : Dec (late_at st m ≡ 0) → (p : Bool) → ended b st m ≡ p → Brought b then told m
        go (no z) p e = brought_before m z
        go (yes z) true e = brought_ended m e
        go (yes z) false e = absurd (h (late_after_lem b st m known ∙ late_none b st m z e))

    pub clock_right : Agreed b (state_after b st) then told
    clock_right = record { slaves = λ k h. passes k h then told (after_accesses k h); latent = latent_after }

    -- a read of a slave that is finished
    pub clock_read : (m : ℕ) → unmapped_at b st m ≡ false → finished b st m ≡ true → (told.request m).write ≡ false
        → take (bytes_in b (told.request m)) (drop (part_of m) then.buffer) ≡ told.given m
    clock_read m mapped f = (go (ℕ_discrete (late_at st m) 0)).reads
      where
        go : Dec (late_at st m ≡ 0) → Brought b then told m
        go (yes z) = brought_ended m (finished_ended b st m mapped f z).0
        go (no z) = brought_before m z
