-- One clock of a sound state, for the masters at one slave: who is served, who keeps its transfer, and whom the lines show
-- (rule 6.2).
-- Assumes nothing.
use mathlib.Core.Path.{◌≡◌, refl, sym, ap, subst, ◌∙◌}
use mathlib.Core.Bool.{Bool, true, false, not, ◌||◌, and-false, false≢true}
use mathlib.Core.Logic.{◌⊎◌, inl, inr, ◌≢◌}
use Prim.Native.Nat.{ℕ, zero, suc, ◌≤◌, ◌<◌}
use native.Mathlib.Omega.{arith}
use lib.Dec.{eqb, ltb}
use lib.ListN.{get_or}
use borrow.Author.Tests.{eq-eqb, ne_eqb, ltb-true, ltb-false}
use Rattle.common_laws.specs.Lists.{some}
use Rattle.common_laws.proofs.TableLaws.{some_here, none_all}
use Rattle.description_board.specs.declared.Board.{Board}
use Rattle.description_board.specs.Legal.{Legal}
use Rattle.fabric_transfer.specs.declared.Transfer.{Transfer}
use Rattle.fabric_state.specs.declared.Slot.{Slot}
use Rattle.fabric_state.specs.declared.State.{State}
use Rattle.fabric_state.specs.Records.{no_line, transfer_at, slot_at, late_at}
use Rattle.fabric_state.specs.Soundness.{requests}
use Rattle.fabric_state.specs.Control.{slot_after_grant, step_of, state_after, ended, lines_of}
use Rattle.fabric_state.proofs.Sound.{Sound}
use Rattle.fabric_state.proofs.StateLaws.{slot_after_lem, line_after_lem, line_after_past, transfer_after_lem}
use Rattle.fabric_state.proofs.StateLaws.{transfer_after_past, transfer_finished, held_after, ended_here, finished_now}
use Rattle.fabric_state.proofs.StateLaws.{late_after_lem, late_less, finished_then}
use Rattle.fabric_state.proofs.StepLaws.{step_rests, line_owner, last_serving}
use Rattle.fabric_state.proofs.RequestLaws.{requests_one, requests_free, requests_latency}
use Rattle.fabric_state.proofs.SoundLaws.{grant_sound, ended_only, asks_kept, asks_free, requests_same}
use Rattle.theorem_history.specs.Claim.{owns}
use Rattle.theorem_history.proofs.OneClock.AfterGrant.{ServesNow}
use Rattle.theorem_history.proofs.OneClock.UsableGrants.{behind_at}
use Rattle.theorem_history.proofs.OneClock.SlaveClock.{acts, stays, owner_after, late_begins}

module _ (b : Board) (legal : Legal b) (st : State) (sound : Sound b st) where
  -- who holds nothing holds nothing after the clock
  pub free_after : (j : ℕ) → (transfer_at st j).held ≡ false → (transfer_at (state_after b st) j).held ≡ false
  free_after j e = go (transfer_at (state_after b st) j).held refl
    where
      go : (c : Bool) → (transfer_at (state_after b st) j).held ≡ c → (transfer_at (state_after b st) j).held ≡ false
      go true q =
          absurd (false≢true (sym e ∙ ap (λ (t : Transfer). t.held) (sym (held_after b st j q).1) ∙ q))
      go false q = q

  -- who passes its last latency clock is finished
  pub late_freed : (j : ℕ) → late_at st j ≢ 0 → late_at (state_after b st) j ≡ 0 → (transfer_at (state_after b st) j).held ≡ false
  late_freed j some none = go (ltb j 8) refl
    where
      go : (c : Bool) → ltb j 8 ≡ c → (transfer_at (state_after b st) j).held ≡ false
      go true e =
          let h = ltb-true j 8 e in
          let one : late_at st j ≡ 1 = omega (arith, late_after_lem b st j h, late_less b st j some, none, positive (late_at st j) some) in
          ap (λ (t : Transfer). t.held) (transfer_after_lem b st j h ∙ transfer_finished b st j (finished_then b st j one))
        where
          positive : (n : ℕ) → n ≢ 0 → 1 ≤ n
          positive zero d = absurd (d refl)
          positive (suc n) d = omega arith
      go false e = ap (λ (t : Transfer). t.held) (transfer_after_past b st j (ltb-false j 8 e))

  module _ (s : ℕ) (hs : s < b.slave_count) where
    -- who is served is in service after the clock, or has had its last access: with no latency behind it, it is finished
    pub acted : (j : ℕ) → ServesNow b st s j
        → (((slot_at (state_after b st) s).serving ≡ true) × ((slot_at (state_after b st) s).owner ≡ j)
        × (transfer_at (state_after b st) j ≡ transfer_at st j))
        ⊎ ((late_at (state_after b st) j ≡ behind_at b st s j)
        × (behind_at b st s j ≡ 0 → (transfer_at (state_after b st) j).held ≡ false))
    acted j now = go (step_of b st s).slot.serving refl
      where
        known : j < 8
        known = omega (arith, (grant_sound b st legal sound s hs).owner, now.owner, legal.few_masters)

        asks : requests b st s j ≡ true
        asks =
            subst (λ (i : ℕ). requests b st s i ≡ true) now.owner ((grant_sound b st legal sound s hs).serving now.on).asks

        go : (c : Bool) → (step_of b st s).slot.serving ≡ c
            → (((slot_at (state_after b st) s).serving ≡ true) × ((slot_at (state_after b st) s).owner ≡ j)
            × (transfer_at (state_after b st) j ≡ transfer_at st j))
            ⊎ ((late_at (state_after b st) j ≡ behind_at b st s j)
            × (behind_at b st s j ≡ 0 → (transfer_at (state_after b st) j).held ≡ false))
        go true q =
            inl (
              ap (λ (x : Slot). x.serving) (slot_after_lem b st s hs legal.few_slaves) ∙ q,
              owner_after b legal st sound s hs now.on ∙ now.owner,
              subst (λ (i : ℕ). transfer_at (state_after b st) i ≡ transfer_at st i) now.owner
                  (stays b legal st sound s hs now.on q),
            )
        go false q =
            let c = acts b legal st sound s hs now.on in
            let e = ended_here b st j s hs (c.ends ∙ ap not q) (c.line ∙ now.owner) in
            inr (
              subst (λ (i : ℕ). late_at (state_after b st) i ≡ behind_at b st s i) now.owner
                  (late_begins b legal st sound s hs now.on q),
              (λ z.
                  let f = finished_now b st j (requests_free b st s j asks) e (requests_latency b st s j legal asks ∙ z) in
                  ap (λ (t : Transfer). t.held) (transfer_after_lem b st j known ∙ transfer_finished b st j f)),
            )

    -- who asks here and is not served keeps its transfer
    module _ (j : ℕ) (asks : requests b st s j ≡ true)
        (off : (slot_after_grant b st s).serving ≡ true → (slot_after_grant b st s).owner ≢ j) where
      unended : ended b st j ≡ false
      unended = go (ended b st j) refl
        where
          go : (c : Bool) → ended b st j ≡ c → ended b st j ≡ false
          go true q =
              let f = ended_only b st legal sound s j asks q in
              let on = last_serving b st s f.0 in
              absurd (off on (sym (line_owner b st s on) ∙ f.1))
          go false q = q

      pub kept_after : transfer_at (state_after b st) j ≡ transfer_at st j
      kept_after = asks_kept b st legal sound s j asks unended

      -- and goes on asking
      pub asks_after : requests b (state_after b st) s j ≡ true
      asks_after = requests_same b st (state_after b st) j s kept_after (asks_free b st legal sound s j asks unended) ∙ asks

      line_hides : (k : ℕ) → k < b.slave_count → owns j (step_of b st k).line ≡ false
      unfolding owns
      line_hides k hk = go (slot_after_grant b st k).serving refl
        where
          other : (slot_after_grant b st k).serving ≡ true → (slot_after_grant b st k).owner ≢ j
          other on q =
              let a = subst (λ (i : ℕ). requests b st k i ≡ true) q ((grant_sound b st legal sound k hk).serving on).asks in
              let z = requests_one b st j k s legal a asks in
              off (subst (λ (i : ℕ). (slot_after_grant b st i).serving ≡ true) z on)
              (subst (λ (i : ℕ). (slot_after_grant b st i).owner ≡ j) z q)

          go : (c : Bool) → (slot_after_grant b st k).serving ≡ c → owns j (step_of b st k).line ≡ false
          go true on =
              rw (ne_eqb (step_of b st k).line.owner j (λ q. other on (sym (line_owner b st k on) ∙ q)))
              (and-false (eqb (step_of b st k).line.phase 1 || eqb (step_of b st k).line.phase 2))
          go false e = rw (step_rests b st k e)

      -- nor does any line show it
      pub hidden : some (λ k. owns j (get_or (lines_of b st) k no_line)) 16 ≡ false
      unfolding owns
      hidden = none_all (λ k. owns j (get_or (lines_of b st) k no_line)) 16 (λ k h. go k (ltb k b.slave_count) refl)
        where
          go : (k : ℕ) (c : Bool) → ltb k b.slave_count ≡ c → owns j (get_or (lines_of b st) k no_line) ≡ false
          go k true e =
              let h = ltb-true k b.slave_count e in
              ap (owns j) (line_after_lem b st k h legal.few_slaves) ∙ line_hides k h
          go k false e = ap (owns j) (line_after_past b st k (ltb-false k b.slave_count e))

    -- who is served is shown
    pub shown : (j : ℕ) → ServesNow b st s j → some (λ k. owns j (get_or (lines_of b st) k no_line)) 16 ≡ true
    unfolding owns
    shown j now =
        let l = legal.few_slaves in
        let c = acts b legal st sound s hs now.on in
        some_here (λ k. owns j (get_or (lines_of b st) k no_line)) 16 s (omega arith)
        (ap (owns j) (line_after_lem b st s hs l) ∙ rw (c.shown, eq-eqb (step_of b st s).line.owner j (c.line ∙ now.owner)))
