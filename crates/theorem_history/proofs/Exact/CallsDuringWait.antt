-- The calls during the wait: everybody connected who holds nothing posts what is due, then comes a clock, again and again.
-- Where m has D clocks to wait for, D clocks do not show it, and the next one does.
-- Assumes nothing.
use mathlib.Core.Path.{◌≡◌, refl, sym, ap, subst, ◌∙◌}
use mathlib.Core.Bool.{Bool, true, false}
use mathlib.Core.Logic.{◌⊎◌, inl, inr, ⊎_elim, ◌≢◌}
use Prim.Native.Nat.{ℕ, zero, suc, ◌≤◌, ◌<◌}
use native.Mathlib.Decide.{ℕ_discrete}
use native.Mathlib.Omega.{arith}
use lib.Dec.{ltb}
use borrow.Author.Tests.{ltb-true, ltb-false}
use Rattle.description_board.specs.declared.Board.{Board}
use Rattle.description_board.specs.Records.{shares_at}
use Rattle.description_board.specs.Items.{board_refusal}
use Rattle.description_board.specs.Legal.{Legal}
use Rattle.fabric_transfer.specs.declared.Transfer.{Transfer}
use Rattle.fabric_state.specs.declared.State.{State}
use Rattle.fabric_state.specs.Records.{transfer_at}
use Rattle.fabric_state.specs.Posting.{Request, with_transfer}
use Rattle.fabric_calls.specs.Calls.{World}
use Rattle.fabric_state.proofs.Sound.{Sound}
use Rattle.fabric_state.proofs.StateLaws.{transfer_with, transfer_with_other}
use Rattle.theorem_history.specs.Claim.{shows}
use Rattle.theorem_history.proofs.OneClock.MasterClock.{hidden, shown}
use Rattle.theorem_history.proofs.Histories.CallCases.{with_post, with_clock}
use Rattle.theorem_history.proofs.Histories.OnePost.{ahead_with, pot_with, asks_with}
use Rattle.theorem_history.proofs.Histories.Standing.{Standing, post_stands, clock_stands}
use Rattle.theorem_history.proofs.Exact.DueRequests.{request_for, transfer_for, request_taken}
use Rattle.theorem_history.proofs.Exact.DueClock.{due_at, Has, Tracked, Ready, serves_mine, serves_other, tracked_after}
use Rattle.theorem_history.proofs.Exact.BuiltHistories.{ShownAfter, shown_post, shown_clock, shown_last}

module _
    (b : Board) (legal : Legal b) (ok : board_refusal b ≡ 0) (s : ℕ) (hs : s < b.slave_count) (m : ℕ)
    (hm : m < b.master_count)
  where
    -- ---- master i posts what is due

    module _ (D : ℕ) (st : State) (x : Tracked b s m D st) (i : ℕ) (hi : i < b.master_count)
        (free : (transfer_at st i).held ≡ false) where
      abbrev due : Transfer
      due = transfer_for b s i (due_at b s st i)

      abbrev then : State
      then = with_transfer st i due

      posted_has : Has b s m then i
      unfolding with_transfer
      posted_has =
          inr (inl (x.sound.free i free, transfer_with st i due x.sound.transfers (omega (arith, legal.few_masters))))

      other_has : (j : ℕ) → j ≢ i → Has b s m st j → Has b s m then j
      unfolding with_transfer
      other_has j d (inl h) = inl h
      other_has j d (inr (inl h)) = inr (inl (h.0, transfer_with_other st i due j d ∙ h.1))
      other_has j d (inr (inr h)) = inr (inr h)

      tracked_with : Sound b then → Tracked b s m D then
      unfolding with_transfer
      tracked_with sound = record {
        sound = sound;
        asks = asks_with b st x.sound i due free s m x.asks;
        aside = x.aside;
        count = pot_with b st x.sound i due free s m hs ∙ x.count;
        owes = λ j hj shared. go j hj shared (ℕ_discrete j i);
        plain = λ some. ahead_with b st x.sound i due free s hs ∙ x.plain some;
      }
        where
          go : (j : ℕ) → j < b.master_count → 1 ≤ shares_at b j s → Dec (j ≡ i)
              → ((transfer_at then j).held ≡ false) ⊎ Has b s m then j
          go j hj shared (yes q) = inr (subst (Has b s m then) (sym q) posted_has)
          go j hj shared (no q) =
              ⊎_elim
              (λ f. inl (ap (λ (t : Transfer). t.held) (transfer_with_other st i due j q) ∙ f))
              (λ h. inr (other_has j q h))
              (x.owes j hj shared)

    -- ---- everybody does

    -- everybody connected, from master i on, has what is due
    abbrev HaveFrom : ℕ → State → Type 0
    HaveFrom i st = (j : ℕ) → i ≤ j → j < b.master_count → 1 ≤ shares_at b j s → Has b s m st j

    have_more : (i : ℕ) (st : State) → (i < b.master_count → 1 ≤ shares_at b i s → Has b s m st i) → HaveFrom (suc i) st
        → HaveFrom i st
    have_more i st h g j l hj has = pick (ℕ_discrete i j)
      where
        pick : Dec (i ≡ j) → Has b s m st j
        pick (yes q) = subst (Has b s m st) q (h (omega arith) (rw q has))
        pick (no q) = g j (omega arith) hj has

    -- m is shown after k clocks from w on, if it is so from wherever everybody has posted; those from master i on have
    Filler : ℕ → ℕ → ℕ → Type 0
    Filler i D k = (w : World) → Standing b w → Tracked b s m D w.state → HaveFrom i w.state
        → ((u : World) → Standing b u → Ready b s m D u.state → ShownAfter b m k u) → ShownAfter b m k w

    fill_one : (i D k : ℕ) → Filler i D k → Filler (suc i) D k
    unfolding Filler with_transfer request_for transfer_for
    fill_one i D k rec w y x f c = go (ltb i b.master_count) refl (ltb 0 (shares_at b i s)) refl
      where
        st : State
        st = w.state

        post : i < b.master_count → 1 ≤ shares_at b i s → (transfer_at st i).held ≡ false → ShownAfter b m k w
        post hi has free =
            let q : Request = request_for b s i (due_at b s st i) in
            let t = request_taken b legal s hs i hi has st (due_at b s st i) free in
            let u = post_stands b legal w q y t in
            let others : HaveFrom (suc i) (with_post w q).state =
            λ j l hj shared. other_has D st x i hi free j (λ z. omega arith) (f j l hj shared) in
            shown_post b legal ok w q y t
            (rec (with_post w q) u (tracked_with D st x i hi free u.sound)
            (have_more i (with_post w q).state (λ _ _. posted_has D st x i hi free) others) c)

        go : (a : Bool) → ltb i b.master_count ≡ a → (d : Bool) → ltb 0 (shares_at b i s) ≡ d → ShownAfter b m k w
        go true p true q =
            let hi = ltb-true i b.master_count p in
            let has = ltb-true 0 (shares_at b i s) q in
            ⊎_elim (post hi has) (λ h. rec w y x (have_more i st (λ _ _. h) f) c) (x.owes i hi has)
        go true p false q =
            rec w y x (have_more i st (λ _ h. absurd (omega (arith, ltb-false 0 (shares_at b i s) q))) f) c
        go false p d q =
            rec w y x (have_more i st (λ h _. absurd (omega (arith, ltb-false i b.master_count p))) f) c

    fill : (i D k : ℕ) → Filler i D k
    unfolding Filler
    fill zero D k w y x f c = c w y (record { tracked = x; full = λ j. f j (omega arith) })
    fill (suc i) D k w y x f c = fill_one i D k (fill i D k) w y x f c

    -- ---- and a clock follows

    pub waits_out : (D : ℕ) (w : World) → Standing b w → Tracked b s m D w.state → ShownAfter b m D w
    unfolding Filler shows
    waits_out zero w y x =
        fill b.master_count 0 0 w y x (λ j l h has. absurd (omega arith))
        (λ u v r.
        let now = serves_mine b legal s hs m hm 0 u.state r refl in
        shown_last b legal ok u v (shown b legal u.state r.tracked.sound s hs m now))
    waits_out (suc D) w y x =
        fill b.master_count (suc D) (suc D) w y x (λ j l h has. absurd (omega arith))
        (λ u v r.
        let d = serves_other b legal s hs m hm (suc D) u.state r (omega arith) in
        shown_clock b legal ok u v
        (hidden b legal u.state r.tracked.sound s hs m r.tracked.asks (λ _. d))
        (waits_out D (with_clock b u) (clock_stands b legal u v) (tracked_after b legal s hs m hm (suc D) u.state r D refl)))
