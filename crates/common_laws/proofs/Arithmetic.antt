-- Products, quotients, remainders and powers of two: bounds, and what divides what.
-- Assumes nothing.
use mathlib.Core.Path.{◌≡◌, sym, ap, ◌∙◌, subst}
use Prim.Native.Nat.{ℕ, ◌+◌, ◌-◌, ◌*◌, ◌/◌, ◌%◌, ◌^◌, ◌≤◌, ◌<◌}
use native.Mathlib.Nat.{mul-le-mul, mul-le-mul_right, add-mul, one-mul}
use native.Mathlib.Nat.{mod-lt, div-add-mod', div-lt_iff_lt-mul, div-mul_cancel}
use native.Mathlib.Nat.{dvd_trans, dvd-add, dvd-sub, dvd-mod_iff, le_of_dvd, dvd_of_mod-eq-zero, mod-eq-zero_of_dvd}
use native.Mathlib.Omega.{arith}
use lib.Pow.{pow_pos, shl_exact}
use lib.Bits.{bit_and, and_mask}

-- a product of two bounded numbers
pub product_le : (a b m n : ℕ) → a ≤ m → b ≤ n → a * b ≤ m * n
product_le a b m n p q = mul-le-mul p q

-- a number less its remainder is rounded down
pub less_remainder : (a b : ℕ) → a - a % b ≡ a / b * b
less_remainder a b = omega (arith, div-add-mod' a b)

-- a mask and a shift in w digits give the j low digits of n, moved up to digit k
pub field_of : (n j k w : ℕ) → j + k ≤ w → bit_and n (2 ^ j - 1) * 2 ^ k % 2 ^ w ≡ n % 2 ^ j * 2 ^ k
field_of n j k w h =
    ap (λ (x : ℕ). x * 2 ^ k % 2 ^ w) (and_mask n j) ∙ shl_exact j k w (mod-lt n (pow_pos j)) h

-- a multiple of a multiple
pub multiple_trans : (x m b : ℕ) → x % m ≡ 0 → m % b ≡ 0 → x % b ≡ 0
multiple_trans x m b p q = mod-eq-zero_of_dvd b (dvd_trans b (dvd_of_mod-eq-zero b q) (dvd_of_mod-eq-zero m p))

-- sums and differences of multiples of b
pub multiple_add : (x y b : ℕ) → x % b ≡ 0 → y % b ≡ 0 → (x + y) % b ≡ 0
multiple_add x y b p q = mod-eq-zero_of_dvd b (dvd-add b (dvd_of_mod-eq-zero b p) (dvd_of_mod-eq-zero b q))

pub multiple_sub : (x y b : ℕ) → x % b ≡ 0 → y % b ≡ 0 → (x - y) % b ≡ 0
multiple_sub x y b p q = mod-eq-zero_of_dvd b (dvd-sub b (dvd_of_mod-eq-zero b p) (dvd_of_mod-eq-zero b q))

-- where x and s are multiples of b, a part of b numbers from x on does not cross a multiple of s
pub multiple_room : (x b s : ℕ) → 0 < s → x % b ≡ 0 → s % b ≡ 0 → x % s + b ≤ s
multiple_room x b s h p q =
    let d = dvd_of_mod-eq-zero b q in
    let r = dvd-sub b d ((dvd-mod_iff b d).1 (dvd_of_mod-eq-zero b p)) in
    let l : x % s < s = mod-lt x h in
    let g : 0 < s - x % s = omega arith in
    omega (arith, le_of_dvd g r)

-- below a multiple s of w, the next w numbers from x rounded down stay below s
pub rounded_room : (x w s : ℕ) → 0 < w → x < s → s % w ≡ 0 → x / w * w + w ≤ s
rounded_room x w s p h q =
    let e : s / w * w ≡ s = div-mul_cancel w (dvd_of_mod-eq-zero w q) in
    let l : x / w < s / w = (div-lt_iff_lt-mul p).1 (subst (λ (n : ℕ). x < n) (sym e) h) in
    let g : x / w + 1 ≤ s / w = omega arith in
    omega (arith, mul-le-mul_right w g, add-mul (x / w) 1 w, one-mul w)
