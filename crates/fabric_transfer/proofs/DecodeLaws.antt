-- Address decoding read as a range: with the base a multiple of the span, an address agrees exactly where it lies in the span.
-- Assumes nothing.
use mathlib.Core.Path.{◌≡◌, refl, sym, ap, ◌∙◌}
use mathlib.Core.Bool.{Bool, true, false}
use Prim.Native.Nat.{ℕ, ◌+◌, ◌-◌, ◌*◌, ◌/◌, ◌%◌, ◌^◌, ◌≤◌, ◌<◌}
use native.Mathlib.Nat.{div-add-mod', mod-lt, div-eq_of_lt-le, add-mul, one-mul, mul-mod_left, mul-div_cancel}
use native.Mathlib.Omega.{arith}
use lib.Bits.{bit_and, and_mask}
use lib.Dec.{eqb, leb, eqb→eq, leb→le}
use lib.Count.{count_trailing_zeros}
use lib.Pow.{pow_pos, pow-add}
use borrow.Author.Tests.{eq-eqb, ne_eqb, eqb-true, eqb-false}
use Rattle.common_laws.specs.Lists.{member}
use Rattle.common_laws.proofs.Members.{of_member}
use Rattle.description_board.specs.Records.{Slave}
use Rattle.description_board.specs.Rules.{spans}
use Rattle.fabric_transfer.specs.Decoding.{agrees}
use Rattle.fabric_transfer.specs.Code.Pairs.{Span}

pub span_pos : {n : ℕ} → Span n → 0 < n
span_pos s = rw s.power (pow_pos s.log)

-- every width divides a span: 8 does
pub span_eight : {n : ℕ} → Span n → n % 8 ≡ 0
span_eight s =
    let e : s.log - 3 + 3 ≡ s.log = omega (arith, s.least) in
    ap (λ (x : ℕ). x % 8) (s.power ∙ ap (λ (x : ℕ). 2 ^ x) (sym e) ∙ pow-add 2 (s.log - 3) 3)
    ∙ mul-mod_left (2 ^ (s.log - 3)) 8

module _ (sl : Slave) (address : ℕ) (span : Span sl.span) (aligned : sl.base % sl.span ≡ 0) where
  pub agrees_within : agrees sl address ≡ true → (sl.base ≤ address) × (address < sl.base + sl.span)
  unfolding agrees
  agrees_within e =
      let same : address / sl.span * sl.span ≡ sl.base / sl.span * sl.span =
      ap (λ (x : ℕ). x * sl.span) (eqb-true (address / sl.span) (sl.base / sl.span) e) in
      let b = div-add-mod' sl.base sl.span in
      let a = div-add-mod' address sl.span in
      (omega (arith, a, b), omega (arith, a, b, mod-lt address (span_pos span)))

  pub within_agrees : sl.base ≤ address → address < sl.base + sl.span → agrees sl address ≡ true
  unfolding agrees
  within_agrees l h =
      let b = div-add-mod' sl.base sl.span in
      let next : (sl.base / sl.span + 1) * sl.span ≡ sl.base / sl.span * sl.span + sl.span =
      add-mul (sl.base / sl.span) 1 sl.span ∙ ap (λ (x : ℕ). sl.base / sl.span * sl.span + x) (one-mul sl.span) in
      eq-eqb _ _ (div-eq_of_lt-le sl.span (omega (arith, b)) (omega (arith, b, next)))

-- what the rules of a board take as a span is one: computed at each
pub span_of : (n : ℕ) → member n spans ≡ true → Span n
unfolding count_trailing_zeros
span_of n e = record {
  log = count_trailing_zeros 17 n;
  power = eqb→eq _ _ (of_member (λ m. eqb m (2 ^ count_trailing_zeros 17 m)) spans tt n e);
  least = leb→le _ _ (of_member (λ m. leb 3 (count_trailing_zeros 17 m)) spans tt n e);
  most = leb→le _ _ (of_member (λ m. leb (count_trailing_zeros 17 m) 16) spans tt n e);
}

-- a mask leaves what is over a multiple of a span
pub over_span : (n : ℕ) {span : ℕ} → Span span → bit_and n (span - 1) ≡ n % span
over_span n s = rw s.power (and_mask n s.log)

-- multiples of one number are equal exactly where their quotients are
pub multiples_agree : (a b : ℕ) {n x y : ℕ} → 0 < n → x ≡ a / n * n → y ≡ b / n * n → eqb x y ≡ eqb (a / n) (b / n)
multiples_agree a b {n} {x} {y} h e f = rw (e, f) (go (eqb (a / n) (b / n)) refl)
  where
    go : (c : Bool) → eqb (a / n) (b / n) ≡ c → eqb (a / n * n) (b / n * n) ≡ c
    go true q = eq-eqb _ _ (ap (λ (k : ℕ). k * n) (eqb-true (a / n) (b / n) q))
    go false q =
        ne_eqb _ _ (λ w. eqb-false (a / n) (b / n) q (sym (mul-div_cancel (a / n) h) ∙ ap (λ (k : ℕ). k / n) w
        ∙ mul-div_cancel (b / n) h))
