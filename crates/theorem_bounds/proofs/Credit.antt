-- The clocks that r grants of one master last at the most: `credit`. A turn (rule 5.6) is the credit of all shares.
-- Assumes nothing.
use mathlib.Core.Path.{◌≡◌, refl, ap}
use mathlib.Core.Bool.{Bool, true, false, cond}
use Prim.Native.Nat.{ℕ, zero, suc, ◌+◌, ◌*◌, ◌≤◌, ◌<◌}
use native.Mathlib.Nat.{mul-le-mul_right, suc-mul}
use native.Mathlib.Omega.{arith}
use lib.Dec.{ltb}
use borrow.Author.Tests.{ltb-true, ltb-false, lt-ltb, le-ltb}
use Rattle.fabric_arbiter.specs.Granting.{kept}

-- r grants: r − 1 singles and one longest transfer
unfoldable pub credit : ℕ → ℕ → ℕ → ℕ
credit single serve zero = 0
credit single serve (suc r) = r * single + serve

pub credit_zero : (single serve r : ℕ) → r ≡ 0 → credit single serve r ≡ 0
unfolding credit
credit_zero single serve zero e = refl
credit_zero single serve (suc r) e = absurd (omega arith)

pub credit_suc : (single serve r : ℕ) → credit single serve (suc r) ≡ r * single + serve
unfolding credit
credit_suc single serve r = refl

pub credit_le : (single serve a b : ℕ) → a ≤ b → credit single serve a ≤ credit single serve b
unfolding credit
credit_le single serve zero b h = omega arith
credit_le single serve (suc a) zero h = absurd (omega arith)
credit_le single serve (suc a) (suc b) h = let l : a ≤ b = omega arith in omega (arith, mul-le-mul_right single l)

-- one more single
credit_more : (single serve a : ℕ) → credit single serve (suc (suc a)) ≡ single + credit single serve (suc a)
unfolding credit
credit_more single serve a = rw suc-mul (omega arith)

kept_burst : (beats r : ℕ) → 1 < beats → kept beats r ≡ 0
unfolding kept
kept_burst beats r h = rw (lt-ltb 1 beats h)

kept_single : (beats r : ℕ) → beats ≤ 1 → kept beats r ≡ r
unfolding kept
kept_single beats r h = rw (le-ltb 1 beats h)

kept_zero : (beats : ℕ) → kept beats 0 ≡ 0
unfolding kept
kept_zero beats = go (ltb 1 beats)
  where
    go : (b : Bool) → ◌≡◌ {A = ℕ} (cond b 0 0) 0
    go true = refl
    go false = refl

-- what is kept was there
pub kept_some : (beats r : ℕ) → 1 ≤ kept beats r → 1 ≤ r
unfolding kept
kept_some beats r = go (ltb 1 beats)
  where
    go : (b : Bool) → 1 ≤ cond b 0 r → 1 ≤ r
    go true h = absurd (omega arith)
    go false h = h

module _ (single serve beats : ℕ) where
  -- the last grant: nothing is kept behind it
  last_kept : credit single serve 1 ≡ serve + credit single serve (kept beats 0)
  last_kept = omega (arith, credit_suc single serve 0, credit_zero single serve (kept beats 0) (kept_zero beats))

  -- a single before it: the others are kept
  single_kept : (p : ℕ) → beats ≤ 1 → credit single serve (suc (suc p)) ≡ single + credit single serve (kept beats (suc p))
  single_kept p h = omega (arith, credit_more single serve p, ap (credit single serve) (kept_single beats (suc p) h))

  module _ (long : ℕ) where
    -- a granted transfer with what then remains is within the credit before it
    pub spend : long ≤ serve → (beats ≤ 1 → long ≤ single) → (p : ℕ)
        → long + credit single serve (kept beats p) ≤ credit single serve (suc p)
    spend whole alone = go (ltb 1 beats) refl
      where
        go : (b : Bool) → ltb 1 beats ≡ b → (p : ℕ) → long + credit single serve (kept beats p) ≤ credit single serve (suc p)
        go true e p =
            let none = credit_zero single serve (kept beats p) (kept_burst beats p (ltb-true 1 beats e)) in
            omega (arith, credit_suc single serve p)
        go false e zero = omega (arith, last_kept)
        go false e (suc p) =
            let h = ltb-false 1 beats e in
            omega (arith, alone h, single_kept p h)

    -- and uses it up: singles while grants are to come, the longest transfer at the last
    pub spend_all : (p : ℕ) → (p ≡ 0 → long ≡ serve) → (1 ≤ p → (long ≡ single) × (beats ≤ 1))
        → long + credit single serve (kept beats p) ≡ credit single serve (suc p)
    spend_all zero f g = omega (arith, f refl, last_kept)
    spend_all (suc p) f g =
        let h = g (omega arith) in
        omega (arith, h.0, single_kept p h.1)
