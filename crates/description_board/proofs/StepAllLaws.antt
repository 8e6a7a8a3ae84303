-- The lines one after another and their end: a line refused or taken, a refusal stays.
-- Assumes nothing.
use mathlib.Core.Path.{◌≡◌, refl}
use mathlib.Core.Bool.{Bool, true, false, cond}
use mathlib.Core.List.{List, [], ◌∷◌, ◌++◌}
use mathlib.Core.Logic.{◌≢◌}
use Prim.Native.Nat.{ℕ}
use native.Mathlib.Omega.{arith}
use lib.Dec.{eqb}
use borrow.Author.Tests.{eq-eqb, ne_eqb}
use Rattle.description_board.specs.declared.Item.{Item}
use Rattle.description_board.specs.declared.Reading.{Reading}
use Rattle.description_board.specs.Rules.{item_refusal, refused, taken, step, step_all, end_refusal, finish}
use Rattle.description_board.proofs.RuleLaws.{item_number}

-- a refusal stays
pub step_stays : (r : Reading) (x : Item) → (r.number ≡ 0 → ⊥) → step r x ≡ r
unfolding step
step_stays r x h = rw (ne_eqb _ _ h)

pub run_stays : (r : Reading) (xs : List Item) → (r.number ≡ 0 → ⊥) → step_all r xs ≡ r
unfolding step_all
run_stays r [] h = refl
run_stays r (x ∷ xs) h = rw (step_stays r x h) (run_stays r xs h)

pub finish_stays : (r : Reading) → (r.number ≡ 0 → ⊥) → finish r ≡ r
unfolding finish
finish_stays r h = rw (ne_eqb _ _ h)

-- a line by the number n of its refusal
module _ (r : Reading) (x : Item) {n : ℕ} (none : r.number ≡ 0) (e : n ≡ item_refusal r x) where
  pub step_refused : (n ≡ 0 → ⊥) → refused n ≡ step r x
  unfolding step
  step_refused h = rw (eq-eqb _ _ none, ← e, ne_eqb _ _ h)

  pub step_taken : n ≡ 0 → taken r x ≡ step r x
  unfolding step
  step_taken h = rw (eq-eqb _ _ none, ← e, eq-eqb _ _ h)

-- the end by the number n of what is missing
module _ (r : Reading) {n : ℕ} (none : r.number ≡ 0) (e : n ≡ end_refusal r.board) where
  pub finish_refused : (n ≡ 0 → ⊥) → refused n ≡ finish r
  unfolding finish
  finish_refused h = rw (eq-eqb _ _ none, ← e, ne_eqb _ _ h)

  pub finish_taken : n ≡ 0 → r ≡ finish r
  unfolding finish
  finish_taken h = rw (eq-eqb _ _ none, ← e, eq-eqb _ _ h)

-- no line is refused with 20
pub step_number : (r : Reading) (x : Item) → r.number ≢ 20 → (step r x).number ≢ 20
unfolding step taken refused
step_number r x other = go (eqb r.number 0) (eqb (item_refusal r x) 0)
  where
    go : (c d : Bool) → (cond c (cond d (taken r x) (refused (item_refusal r x))) r).number ≢ 20
    go true true = λ z. omega arith
    go true false = item_number (λ n. n ≢ 20) r x (λ n l z. omega arith) (λ l z. omega arith)
    go false d = other

pub run_number : (r : Reading) (xs : List Item) → r.number ≢ 20 → (step_all r xs).number ≢ 20
unfolding step_all
run_number r [] other = other
run_number r (x ∷ xs) other = run_number (step r x) xs (step_number r x other)

-- so 20 is the end's alone: every line is taken
pub end_twenty : (r : Reading) → r.number ≢ 20 → (finish r).number ≡ 20 → end_refusal r.board ≡ 20
unfolding finish refused
end_twenty r other e = go (eqb r.number 0) (eqb (end_refusal r.board) 0) refl e
  where
    n : ℕ
    n = end_refusal r.board

    go : (c d : Bool) → eqb n 0 ≡ d → (cond c (cond d r (refused n)) r).number ≡ 20 → n ≡ 20
    go true true q e = absurd (omega arith)
    go true false q e = e
    go false d q e = absurd (other e)

pub run_append : (r : Reading) (xs ys : List Item) → step_all r (xs ++ ys) ≡ step_all (step_all r xs) ys
unfolding step_all
run_append r [] ys = refl
run_append r (x ∷ xs) ys = run_append (step r x) xs ys
