-- The first cycles of a clock, line after line in any order (rule 6.7): what is true of every slave before them is true, after
-- them, of every slave's slot behind the grant.
-- Assumes nothing.
use mathlib.Core.Path.{◌≡◌, refl, sym, ◌∙◌}
use mathlib.Core.Bool.{Bool, true, false, cond, true≢false}
use mathlib.Core.List.{List, [], ◌∷◌}
use mathlib.Core.Logic.{⊎_elim, ◌≢◌}
use Prim.Native.Nat.{ℕ, ◌≤◌, ◌<◌}
use native.Mathlib.Omega.{arith}
use lib.ListN.{get_or}
use borrow.Author.Tests.{eq-eqb}
use Rattle.description_board.specs.declared.Board.{Board}
use Rattle.description_board.specs.Legal.{Legal}
use Rattle.fabric_transfer.specs.Bytes.{Store}
use Rattle.fabric_transfer.proofs.MoveLaws.{less_or}
use Rattle.fabric_state.specs.declared.Slot.{Slot}
use Rattle.fabric_state.specs.declared.State.{State}
use Rattle.fabric_state.specs.declared.Line.{Line}
use Rattle.fabric_state.specs.Records.{slot_at, no_line}
use Rattle.fabric_state.specs.Control.{slot_after_grant, line_of, step_of, lines_of}
use Rattle.fabric_state.proofs.Sound.{Sound}
use Rattle.fabric_state.proofs.StateLaws.{line_after_lem, line_after_past}
use Rattle.fabric_state.proofs.StepLaws.{Outcome, rests, waiting, works, ends, outcome}
use Rattle.theorem_history.specs.Claim.{Reference, stepped, seen, Order, seen_all}
use Rattle.theorem_history.proofs.OneClock.AfterGrant.{AfterGrant, goes_on, begins, silent, after_grant}
use Rattle.theorem_history.proofs.ReadBytes.LineOrders.{steps, sweep}
use Rattle.theorem_history.proofs.ReadBytes.SlaveBytes.{Right, right_begins, right_idle, right_other_begins}
use Rattle.theorem_history.proofs.ReadBytes.ActiveTransfers.{active_at, lies, owner_wants}

-- what is true of every slave of the board, where slots has its slots
abbrev pub Slaves : Board → State → (ℕ → Slot) → Store → Reference → Type 0
Slaves b st slots d r = (k : ℕ) → k < b.slave_count → Right b (active_at st) d r k (slots k)

-- the line of slave k
abbrev pub line_at : Board → State → ℕ → Line
line_at b st k = get_or (lines_of b st) k no_line

seen_steps : (b : Board) (ss : List ℕ) (lines : List Line) (r : Reference)
    → seen_all b ss lines r ≡ steps (λ s. seen b (get_or lines s no_line)) ss r
unfolding seen_all steps
seen_steps b [] lines r = refl
seen_steps b (s ∷ ss) lines r = seen_steps b ss lines (seen b (get_or lines s no_line) r)

module _ (b : Board) (legal : Legal b) (st : State) (sound : Sound b st) where
  -- the slot of slave k after the grant
  abbrev now : ℕ → Slot
  now k = slot_after_grant b st k

  module _ (k : ℕ) (below : k < b.slave_count) where
    -- ---- the line of one slave

    line_is : line_at b st k ≡ (step_of b st k).line
    line_is = line_after_lem b st k below legal.few_slaves

    pub seen_silent : (r : Reference) → (now k).serving ≡ false → seen b (line_at b st k) r ≡ r
    unfolding seen
    seen_silent r off = rw line_is (go (outcome b st k))
      where
        go : Outcome b st k → seen b (step_of b st k).line r ≡ r
        go (rests e q) = rw q
        go (waiting e h q) = absurd (true≢false (sym e ∙ off))
        go (works e h l q) = absurd (true≢false (sym e ∙ off))
        go (ends e h l q) = absurd (true≢false (sym e ∙ off))

    pub seen_serving : (r : Reference) → (now k).serving ≡ true
        → seen b (line_at b st k) r ≡ cond (r.waiting (now k).owner) (stepped b (now k).owner r) r
    unfolding seen line_of
    seen_serving r on = rw line_is (go (outcome b st k))
      where
        go : Outcome b st k
            → seen b (step_of b st k).line r ≡ cond (r.waiting (now k).owner) (stepped b (now k).owner r) r
        go (rests e q) = absurd (true≢false (sym on ∙ e))
        go (waiting e h q) = rw q
        go (works e h l q) = rw q
        go (ends e h l q) = rw q

    -- it is the first cycle of the owner's transfer where this clock grants the slave
    first_cycle : (d : Store) (r : Reference) → Right b (active_at st) d r k (slot_at st k)
        → Right b (active_at st) d (seen b (line_at b st k) r) k (now k)
    first_cycle d r c = go (after_grant b st k)
      where
        go : AfterGrant b st k → Right b (active_at st) d (seen b (line_at b st k) r) k (now k)
        go (goes_on on same) =
            let o = (slot_at st k).owner in
            let quiet : r.waiting o ≡ false = c.waits o (c.wants on) ∙ rw (on, eq-eqb o o refl) in
            rw (seen_serving r (rw same on), same, quiet) c
        go (begins g) =
            let o = (now k).owner in
            let w = owner_wants b legal st sound k below g.on in
            let first : r.waiting o ≡ true = c.waits o w ∙ rw g.rested in
            rw (seen_serving r g.on, first)
            (right_begins b (active_at st) k (λ m. lies b legal st sound m k) d r (slot_at st k) (now k) g.rested g.on
            g.done w c)
        go (silent rest e off none) =
            rw (seen_silent r off)
            (right_idle b (active_at st) k (λ m. lies b legal st sound m k) d r (slot_at st k) (now k) rest off c)

    -- and changes nothing for the other slaves
    other_cycle : (d : Store) (r : Reference) → Right b (active_at st) d r k (slot_at st k) → (j : ℕ) → k ≢ j → (x : Slot)
        → Right b (active_at st) d r j x → Right b (active_at st) d (seen b (line_at b st k) r) j x
    other_cycle d r c j h x f = go (now k).serving refl (r.waiting (now k).owner) refl
      where
        go : (p : Bool) → (now k).serving ≡ p → (q : Bool) → r.waiting (now k).owner ≡ q
            → Right b (active_at st) d (seen b (line_at b st k) r) j x
        go false off q e = rw (seen_silent r off) f
        go true on false e = rw (seen_serving r on, e) f
        go true on true e =
            let o = (now k).owner in
            let w = owner_wants b legal st sound k below on in
            rw (seen_serving r on, e)
            (right_other_begins b (active_at st) j (λ m. lies b legal st sound m j) k o h w (lies b legal st sound o k w) d r x f
            (c.asked o w))

  -- the line of a number past the slaves has phase 0
  pub silent_past : (k : ℕ) → b.slave_count ≤ k → (r : Reference) → seen b (line_at b st k) r ≡ r
  unfolding seen
  silent_past k h r = rw (line_after_past b st k h)

  -- ---- all lines, in any order: it has every slave, as a board has 16 at most

  pub first_cycles : (order : Order) (d : Store) (r : Reference) → Slaves b st (slot_at st) d r
      → Slaves b st (slot_after_grant b st) d (seen_all b order.slaves (lines_of b st) r)
  first_cycles order d r c k h =
      let few = legal.few_slaves in
      rw (seen_steps b order.slaves (lines_of b st) r)
      (sweep Before After (λ i. seen b (line_at b st i)) (λ i s p a. first_cycle i a d s (p a)) others _ order.slaves
      order.once r (λ i a. c i) (λ i a l. absurd (omega arith)) k h)
    where
      Before : ℕ → Reference → Type 0
      Before i s = i < b.slave_count → Right b (active_at st) d s i (slot_at st i)

      After : ℕ → Reference → Type 0
      After i s = i < b.slave_count → Right b (active_at st) d s i (now i)

      others : (i j : ℕ) → i ≢ j → (s : Reference) → Before i s
          → (Before j s → Before j (seen b (line_at b st i) s)) × (After j s → After j (seen b (line_at b st i) s))
      others i j ne s p =
          ⊎_elim
          (λ (a : i < b.slave_count). (
            λ x e. other_cycle i a d s (p a) j ne (slot_at st j) (x e),
            λ x e. other_cycle i a d s (p a) j ne (now j) (x e),
          ))
          (λ (a : b.slave_count ≤ i). rw (silent_past i a s) (λ x. x, λ x. x))
          (less_or i b.slave_count)
