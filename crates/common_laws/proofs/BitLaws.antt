-- Laws of a number's bits.
-- Assumes nothing.
use mathlib.Core.Path.{◌≡◌, refl, sym, ap, ◌∙◌}
use mathlib.Core.Bool.{false, ◌&&◌}
use Prim.Native.Nat.{ℕ, zero, suc, ◌+◌, ◌-◌, ◌/◌, ◌%◌, ◌^◌, ◌≤◌, ◌<◌}
use native.Mathlib.Nat.{div-eq_of_lt, mod-eq_of_lt, mod-lt, lt_of_lt_of_le}
use native.Mathlib.Omega.{arith}
use lib.Pow.{pow_mono, pow_pos, shr-shr, field, mod-mod-pow}
use lib.Bits.{bit_and, and_shr, and_mod}
use lib.Dec.{eqb}
use borrow.Author.Tests.{ne_eqb}
use Rattle.common_laws.specs.Bits.{bit}

-- a number of j bits has no bit from j on
pub bit_above : (j n k : ℕ) → n < 2 ^ j → j ≤ k → bit n k ≡ false
unfolding bit
bit_above j n k h l = rw (div-eq_of_lt (lt_of_lt_of_le h (pow_mono l)))

-- where w bits from bit x on are 0, each of them is
pub bit_field : (n x w j : ℕ) → n / 2 ^ x % 2 ^ w ≡ 0 → j < w → bit n (x + j) ≡ false
unfolding bit
bit_field n x w j e h =
    let q = n / 2 ^ x in
    let split : w - (1 + j) + (1 + j) ≡ w = omega arith in
    let none : q % 2 ^ (1 + j) ≡ 0
    = sym (mod-mod-pow q (w - (1 + j)) (1 + j)) ∙ rw (split, e) (mod-eq_of_lt (pow_pos (1 + j))) in
    let zero : q / 2 ^ j % 2 ^ 1 ≡ 0 = sym (field q 1 j) ∙ rw none (div-eq_of_lt (pow_pos j)) in
    rw (← shr-shr n x j) (ne_eqb (q / 2 ^ j % 2) 1 (λ f. omega (arith, zero)))

-- a bit is common to two numbers where both have it
pub bit_and_lem : (a b k : ℕ) → bit (bit_and a b) k ≡ (bit a k && bit b k)
unfolding bit
bit_and_lem a b k =
    ap (λ (x : ℕ). eqb (x % 2 ^ 1) 1) (and_shr a b k)
    ∙ ap (λ (x : ℕ). eqb x 1) (and_mod (a / 2 ^ k) (b / 2 ^ k) 1)
    ∙ go (a / 2 ^ k % 2) (b / 2 ^ k % 2) (mod-lt (a / 2 ^ k) (omega arith)) (mod-lt (b / 2 ^ k) (omega arith))
  where
    go : (x y : ℕ) → x < 2 → y < 2 → eqb (bit_and x y) 1 ≡ (eqb x 1 && eqb y 1)
    go zero zero h l = refl
    go zero (suc zero) h l = refl
    go (suc zero) zero h l = refl
    go (suc zero) (suc zero) h l = refl
    go zero (suc (suc y)) h l = absurd (omega arith)
    go (suc zero) (suc (suc y)) h l = absurd (omega arith)
    go (suc (suc x)) y h l = absurd (omega arith)
