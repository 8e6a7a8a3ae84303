-- One cycle of a slave that serves: the clocks left of its transfer fall by one.
-- Assumes nothing.
use mathlib.Core.Path.{◌≡◌, refl, sym, ap, ◌∙◌}
use mathlib.Core.Bool.{Bool, true, false, cond, not, ◌||◌}
use Prim.Native.Nat.{ℕ, suc, ◌+◌, ◌-◌, ◌*◌, ◌≤◌, ◌<◌}
use native.Mathlib.Nat.{suc-mul, sub-zero}
use native.Mathlib.Omega.{arith}
use lib.Dec.{ltb, eqb}
use borrow.Author.Tests.{ltb-false}
use Rattle.description_board.specs.declared.Master.{Master}
use Rattle.description_board.specs.Records.{Slave}
use Rattle.fabric_transfer.specs.declared.Transfer.{Transfer}
use Rattle.fabric_transfer.specs.Accesses.{accesses, wait_of, own_length}
use Rattle.fabric_state.specs.declared.Slot.{Slot}
use Rattle.fabric_state.specs.declared.Step.{Step}
use Rattle.fabric_state.specs.Control.{waits, slot_waiting, slot_accessed, slot_finished, line_of, served}

-- the clocks left of a transfer with d of its t accesses done, v of the w waits before the next one passed
unfoldable pub clocks_left : ℕ → ℕ → ℕ → ℕ → ℕ
clocks_left t w d v = (t - d) * (1 + w) - v

-- the clocks left of what a slave serves
unfoldable pub left_of : Master → Slave → Transfer → Slot → ℕ
left_of ma sl t slot =
    cond slot.serving (clocks_left (accesses ma sl t) (wait_of sl t) slot.done slot.waited) 0

pub left_resting : (ma : Master) (sl : Slave) (t : Transfer) (slot : Slot) → slot.serving ≡ false → left_of ma sl t slot ≡ 0
unfolding left_of
left_resting ma sl t slot e = rw e

pub left_serving : (ma : Master) (sl : Slave) (t : Transfer) (slot : Slot) → slot.serving ≡ true
    → left_of ma sl t slot ≡ clocks_left (accesses ma sl t) (wait_of sl t) slot.done slot.waited
unfolding left_of
left_serving ma sl t slot e = rw e

-- at its grant all of it is left
pub left_whole : (ma : Master) (sl : Slave) (t : Transfer) (slot : Slot) → slot.serving ≡ true → slot.done ≡ 0
    → slot.waited ≡ 0 → left_of ma sl t slot ≡ own_length ma sl t
unfolding clocks_left own_length
left_whole ma sl t slot e d v = left_serving ma sl t slot e ∙ rw (d, v, sub-zero, sub-zero)

one_access : (t d w : ℕ) → d < t → (t - d) * (1 + w) ≡ (t - (d + 1)) * (1 + w) + (1 + w)
one_access t d w h =
    let e : t - d ≡ suc (t - (d + 1)) = omega arith in
    ap (λ (x : ℕ). x * (1 + w)) e ∙ suc-mul (t - (d + 1)) (1 + w)

left_wait : (t w d v : ℕ) → clocks_left t w d (v + 1) ≡ clocks_left t w d v - 1
unfolding clocks_left
left_wait t w d v = omega arith

left_access : (t w d v : ℕ) → d < t → v ≡ w → clocks_left t w (d + 1) 0 ≡ clocks_left t w d v - 1
unfolding clocks_left
left_access t w d v h e = omega (arith, one_access t d w h)

left_last : (t w d v : ℕ) → d < t → t ≤ d + 1 → v ≡ w → 0 ≡ clocks_left t w d v - 1
unfolding clocks_left
left_last t w d v h l e =
    let z : t - (d + 1) ≡ 0 = omega arith in
    omega (arith, one_access t d w h, ap (λ (x : ℕ). x * (1 + w)) z)

some_left : (t w d v : ℕ) → d < t → v ≤ w → 1 ≤ clocks_left t w d v
unfolding clocks_left
some_left t w d v h l = omega (arith, one_access t d w h)

-- what one cycle of a serving slave gives
pub record Cycle (ma : Master) (sl : Slave) (t : Transfer) (slot : Slot) (x : Step) : Type 0 where
  pub owner : x.slot.owner ≡ slot.owner
  pub remaining : x.slot.remaining ≡ slot.remaining
  pub left : left_of ma sl t x.slot ≡ left_of ma sl t slot - 1
  pub some : 1 ≤ left_of ma sl t slot
  pub shown : (eqb x.line.phase 1 || eqb x.line.phase 2) ≡ true
  pub line : x.line.owner ≡ slot.owner
  pub ends : x.last ≡ not x.slot.serving

module _ (ma : Master) (sl : Slave) (t : Transfer) (slot : Slot) (on : slot.serving ≡ true)
    (more : slot.done < accesses ma sl t) (within : slot.waited ≤ wait_of sl t) where
  was : left_of ma sl t slot ≡ clocks_left (accesses ma sl t) (wait_of sl t) slot.done slot.waited
  was = left_serving ma sl t slot on

  some : 1 ≤ left_of ma sl t slot
  some = omega (arith, was, some_left (accesses ma sl t) (wait_of sl t) slot.done slot.waited more within)

  pub cycle : Cycle ma sl t slot (served ma sl t slot)
  unfolding served waits slot_waiting slot_accessed slot_finished line_of left_of
  cycle = go (ltb slot.waited (wait_of sl t)) refl (ltb (slot.done + 1) (accesses ma sl t)) refl
    where
      -- the cycle leaves the slot y, and shows the line of that phase
      leaves : (y : Slot) (phase : ℕ) (end : Bool) → y.owner ≡ slot.owner → y.remaining ≡ slot.remaining
          → left_of ma sl t y ≡ clocks_left (accesses ma sl t) (wait_of sl t) slot.done slot.waited - 1
          → (eqb phase 1 || eqb phase 2) ≡ true → end ≡ not y.serving
          → Cycle ma sl t slot (record { slot = y; line = line_of ma sl t slot phase; last = end })
      leaves y phase end o r l s f = record {
        owner = o;
        remaining = r;
        left = l ∙ ap (λ (z : ℕ). z - 1) (sym was);
        some = some;
        shown = s;
        line = refl;
        ends = f;
      }

      go : (b : Bool) → ltb slot.waited (wait_of sl t) ≡ b → (c : Bool) → ltb (slot.done + 1) (accesses ma sl t) ≡ c
          → Cycle ma sl t slot
          (cond b
          (record { slot = slot_waiting slot; line = line_of ma sl t slot 1; last = false })
          (cond c
          (record { slot = slot_accessed slot; line = line_of ma sl t slot 2; last = false })
          (record { slot = slot_finished slot; line = line_of ma sl t slot 2; last = true })))
      go true p c q = leaves _ 1 false refl refl (left_wait _ _ _ _) refl refl
      go false p true q =
          leaves _ 2 false refl refl (left_access _ _ _ _ more (omega (arith, ltb-false slot.waited _ p))) refl refl
      go false p false q =
          leaves _ 2 true refl refl
          (left_last _ _ _ _ more (ltb-false _ _ q) (omega (arith, ltb-false slot.waited _ p))) refl refl
