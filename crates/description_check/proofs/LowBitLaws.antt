-- A number with one bit set is a power of two.
-- Assumes nothing.
use mathlib.Core.Path.{◌≡◌, refl, sym, ap₂, ◌∙◌}
use mathlib.Core.Bool.{Bool, true, false}
use mathlib.Core.List.{List}
use Prim.Native.Nat.{ℕ, zero, suc, ◌+◌, ◌-◌, ◌*◌, ◌/◌, ◌%◌, ◌^◌, ◌≤◌, ◌<◌, min}
use native.Mathlib.Nat.{div-add-mod', mod-lt, pow-suc}
use native.Mathlib.Omega.{arith}
use lib.Bits.{bit_and, and_step, and_self}
use lib.Count.{ones, ones_step}
use lib.Dec.{T, leb}
use borrow.Author.Tests.{leb-true, leb-false}
use Rattle.std.proofs.lemmas.Nat.{zero_from_ones, ones_le_self}
use Rattle.common_laws.specs.Lists.{member, agree}
use Rattle.common_laws.proofs.Finite.{upto, each, agree_eq}
use Rattle.description_check.specs.Code.Accept.{power_up_to}

-- the lowest bit is the one, and no other is left, or the half is again such a number
pub one_bit : (k n : ℕ) → n < 2 ^ k → ones n ≡ 1 → (j : ℕ) × (j < k) × (n ≡ 2 ^ j)
one_bit zero n h e = absurd (omega (arith, ones_le_self n))
one_bit (suc k) n h e = go (n % 2) refl (mod-lt n (omega arith)) (one_bit k (n / 2))
  where
    go : (d : ℕ) → n % 2 ≡ d → d < 2 → (n / 2 < 2 ^ k → ones (n / 2) ≡ 1 → (j : ℕ) × (j < k) × (n / 2 ≡ 2 ^ j))
        → (j : ℕ) × (j < suc k) × (n ≡ 2 ^ j)
    go zero q m half =
        let w : n ≡ n / 2 * 2 = omega (arith, div-add-mod' n 2) in
        let r = half (omega (arith, pow-suc 2 k)) (omega (arith, ones_step n)) in
        (suc r.0, omega (arith, r.1), omega (arith, w, r.2, pow-suc 2 r.0))
    go (suc zero) q m half =
        let none = zero_from_ones (n / 2) (omega (arith, ones_step n)) in
        (0, omega arith, omega (arith, div-add-mod' n 2))
    go (suc (suc d)) q m half = absurd (omega arith)

-- The same of a number of which no bit is left in n & (n - 1).
-- of an odd number the rest has no bit; of an even one the half is again such a number
odd_rest : (h : ℕ) → bit_and (h * 2 + 1) (h * 2) ≡ 0 → h ≡ 0
odd_rest h e =
    let p : (h * 2 + 1) / 2 ≡ h = omega arith in
    let q : (h * 2 + 1) % 2 ≡ 1 = omega arith in
    let r : h * 2 / 2 ≡ h = omega arith in
    let s : h * 2 % 2 ≡ 0 = omega arith in
    let t = and_step (h * 2 + 1) (h * 2) in
    let u : bit_and h h * 2 + min 1 0 ≡ 0 = rw (p, q, r, s) at (sym t ∙ e) in
    omega (arith, and_self h)

even_half : (h : ℕ) → 0 < h → bit_and (h * 2) (h * 2 - 1) ≡ 0 → bit_and h (h - 1) ≡ 0
even_half h l e =
    let p : h * 2 / 2 ≡ h = omega arith in
    let q : h * 2 % 2 ≡ 0 = omega arith in
    let r : (h * 2 - 1) / 2 ≡ h - 1 = omega arith in
    let s : (h * 2 - 1) % 2 ≡ 1 = omega arith in
    let t = and_step (h * 2) (h * 2 - 1) in
    let u : bit_and h (h - 1) * 2 + min 0 1 ≡ 0 = rw (p, q, r, s) at (sym t ∙ e) in
    omega arith

pub one_bit_by_and : (k n : ℕ) → n < 2 ^ k → 0 < n → bit_and n (n - 1) ≡ 0 → (j : ℕ) × (j < k) × (n ≡ 2 ^ j)
one_bit_by_and zero n h l e = absurd (omega arith)
one_bit_by_and (suc k) n h l e = go (n % 2) refl (mod-lt n (omega arith)) (one_bit_by_and k (n / 2))
  where
    go : (d : ℕ) → n % 2 ≡ d → d < 2
        → (n / 2 < 2 ^ k → 0 < n / 2 → bit_and (n / 2) (n / 2 - 1) ≡ 0 → (j : ℕ) × (j < k) × (n / 2 ≡ 2 ^ j))
        → (j : ℕ) × (j < suc k) × (n ≡ 2 ^ j)
    go zero q m half =
        let w : n ≡ n / 2 * 2 = omega (arith, div-add-mod' n 2) in
        let pos : 0 < n / 2 = omega arith in
        let small : n / 2 < 2 ^ k = omega (arith, pow-suc 2 k) in
        let r = half small pos (even_half (n / 2) pos (rw (← w) e)) in
        (suc r.0, omega (arith, r.1), omega (arith, w, r.2, pow-suc 2 r.0))
    go (suc zero) q m half =
        let w : n ≡ n / 2 * 2 + 1 = omega (arith, div-add-mod' n 2) in
        let v : n - 1 ≡ n / 2 * 2 = omega arith in
        let z = odd_rest (n / 2) (ap₂ bit_and (sym w) (sym v) ∙ e) in
        (0, omega arith, omega arith)
    go (suc (suc d)) q m half = absurd (omega arith)

-- the test of a list of powers of two: no more than the largest, and one bit set
module _ (l : List ℕ) (most : ℕ) (bound : (n : ℕ) → member n l ≡ true → n ≤ most) where
  pub listed_is : T (upto (suc most) (λ n. agree (power_up_to most n) (member n l))) → (x : ℕ) → power_up_to most x ≡ member x l
  unfolding power_up_to
  listed_is all x = go (leb x most) refl (member x l) refl
    where
      go : (c : Bool) → leb x most ≡ c → (d : Bool) → member x l ≡ d → power_up_to most x ≡ member x l
      go true q d r =
          agree_eq _ _ (each (λ n. agree (power_up_to most n) (member n l)) (suc most) all x (omega (arith, leb-true x most q)))
      go false q true r = absurd (omega (arith, leb-false x most q, bound x r))
      go false q false r = rw (q, r)
