-- A field's number byte by byte, and a line's numbers field by field.
-- Assumes nothing.
use mathlib.Core.Bool.{Bool, true, false, cond, not, ◌&&◌}
use mathlib.Core.List.{List, [], ◌∷◌}
use mathlib.Core.Path.{◌≡◌, refl, ap, ◌∙◌}
use Prim.Native.Nat.{ℕ, ◌+◌, ◌-◌, ◌*◌, ◌^◌, ◌≤◌, ◌<◌}
use native.Mathlib.Nat.{pow-suc, pow-le-pow_right}
use native.Mathlib.Numerals.{add-one}
use native.Mathlib.Omega.{arith}
use lib.Dec.{leb, ltb, eqb, lit<}
use lib.ListN.{length, get_or, take, drop, drop_of_length-le}
use lib.Seq.{drop-cons}
use borrow.Author.Tests.{lt-ltb, le-leb, lt-leb, eq-eqb, ne_eqb, ltb-true, ltb-false}
use Rattle.common_text.specs.Fields.{comma, split, is_digit, scan, zero_digit, shaped, number_of}
use Rattle.common_text.specs.Fields.{number_refusal, number_value, most_numbers, no_numbers, with_number, collect, numbers_of}
use Rattle.common_text.specs.Code.Scanning.{Cut}
use Rattle.std.proofs.Common.{Some, None}
use Rattle.common_text.specs.declared.Numbers.{Numbers}
use Rattle.common_text.proofs.Pieces.{behind_part, behind_last}

-- a byte below "0", above "9", between
pub digit_low : (c : ℕ) → c < 48 → is_digit c ≡ false
unfolding is_digit
digit_low c h = rw (lt-leb 48 c h)

pub digit_high : (c : ℕ) → 57 < c → is_digit c ≡ false
unfolding is_digit
digit_high c h =
    let g : 48 ≤ c = omega arith in
    rw (le-leb 48 c g, lt-leb c 57 h)

pub digit_yes : (c : ℕ) → 48 ≤ c → c ≤ 57 → is_digit c ≡ true
unfolding is_digit
digit_yes c l h = rw (le-leb 48 c l, le-leb c 57 h)

pub digit_no : (c : ℕ) → (48 ≤ c → c ≤ 57 → ⊥) → is_digit c ≡ false
digit_no c h = go (ltb c 48) refl
  where
    go : (t : Bool) → ltb c 48 ≡ t → is_digit c ≡ false
    go true e = digit_low c (ltb-true c 48 e)
    go false e = let l = ltb-false c 48 e in digit_high c (omega arith)

-- one byte more of a number
module _ (v : ℕ) (s : List ℕ) (i : ℕ) (h : i < length s) where
  pub scan_stop : is_digit (get_or s i 0) ≡ false → scan v (drop i s) ≡ None
  unfolding scan
  scan_stop e = rw (drop-cons s i 0, e)

  pub scan_step :
      48 ≤ get_or s i 0 → get_or s i 0 ≤ 57
      → scan v (drop i s) ≡ scan (v * 10 + (get_or s i 0 - 48)) (drop (i + 1) s)
  unfolding scan
  scan_step l g = rw (add-one, drop-cons s i 0, digit_yes (get_or s i 0) l g)

pub scan_end : (v : ℕ) (s : List ℕ) (i : ℕ) → length s ≤ i → scan v (drop i s) ≡ Some v
unfolding scan
scan_end v s i h = rw (drop_of_length-le s h)

-- the value of i digits stays below 10 ^ i
pub value_more : (v d i : ℕ) → v < 10 ^ i → d ≤ 9 → v * 10 + d < 10 ^ (i + 1)
value_more v d i h g = rw (add-one, pow-suc) (omega arith)

pub value_bound : (v i : ℕ) → v < 10 ^ i → i ≤ 10 → v < 10 ^ 10
value_bound v i h g = omega (arith, pow-le-pow_right {n = 10} (lit< tt) g)

-- the shape of a field, by its length and its first byte
module _ (f : List ℕ) where
  pub number_none : length f ≡ 0 → number_of f ≡ None
  unfolding number_of shaped
  number_none h = rw h

  pub number_long : 10 < length f → number_of f ≡ None
  unfolding number_of shaped
  number_long h =
      let g : 1 ≤ length f = omega arith in
      rw (le-leb 1 (length f) g, lt-leb (length f) 10 h)

  pub number_one : length f ≡ 1 → number_of f ≡ scan 0 f
  unfolding number_of shaped
  number_one h = rw h (go (eqb (get_or f 0 0) zero_digit))
    where
      go : (t : Bool) → cond (not (t && false)) (scan 0 f) None ≡ scan 0 f
      go true = refl
      go false = refl

  pub number_zero : 1 < length f → get_or f 0 0 ≡ zero_digit → number_of f ≡ None
  unfolding number_of shaped
  number_zero h e = rw (eq-eqb (get_or f 0 0) zero_digit e, lt-ltb 1 (length f) h) (go (leb 1 (length f)) (leb (length f) 10))
    where
      go : (t u : Bool) → cond (t && (u && false)) (scan 0 f) None ≡ None
      go true true = refl
      go true false = refl
      go false u = refl

  pub number_more : 1 < length f → length f ≤ 10 → (get_or f 0 0 ≡ zero_digit → ⊥) → number_of f ≡ scan 0 f
  unfolding number_of shaped
  number_more h g e =
      let l : 1 ≤ length f = omega arith in
      rw (ne_eqb (get_or f 0 0) zero_digit e, le-leb 1 (length f) l, le-leb (length f) 10 g)

-- one field more
module _ (ns : Numbers) (f : List ℕ) (fs : List (List ℕ)) where
  pub collect_full : ns.count ≡ most_numbers → collect ns (f ∷ fs) ≡ no_numbers
  unfolding collect
  collect_full h = simp (eq-eqb _ _ h)

  pub collect_malformed : (ns.count ≡ most_numbers → ⊥) → number_of f ≡ None → collect ns (f ∷ fs) ≡ no_numbers
  unfolding collect number_refusal
  collect_malformed h e = simp (ne_eqb _ _ h, e)

  pub collect_value :
      (v : ℕ) → (ns.count ≡ most_numbers → ⊥) → number_of f ≡ Some v
      → collect ns (f ∷ fs) ≡ collect (with_number ns v) fs
  unfolding collect number_refusal number_value
  collect_value v h e = simp (ne_eqb _ _ h, e)

pub collect_end : (ns : Numbers) → collect ns [] ≡ ns
unfolding collect
collect_end ns = refl

-- a line with no field behind its first
pub numbers_none : numbers_of [] ≡ no_numbers
unfolding numbers_of
numbers_none = collect_end no_numbers

-- The numbers of the fields of s, where ns are those of the fields before `rest`, whose first field ends at e.
module _
    (s : List ℕ) (ns : Numbers) (rest : List ℕ) (e : ℕ)
    (known : numbers_of (split comma s) ≡ collect ns (split comma rest))
    (cut : Cut comma rest e)
  where
    pub numbers_full : ns.count ≡ most_numbers → numbers_of (split comma s) ≡ no_numbers
    numbers_full h = known ∙ ap (collect ns) cut.pieces ∙ collect_full ns _ _ h

    pub numbers_malformed :
        (ns.count ≡ most_numbers → ⊥) → number_of (take e rest) ≡ None → numbers_of (split comma s) ≡ no_numbers
    numbers_malformed h n = known ∙ ap (collect ns) cut.pieces ∙ collect_malformed ns _ _ h n

    module _ (v : ℕ) (h : ns.count ≡ most_numbers → ⊥) (n : number_of (take e rest) ≡ Some v) where
      pub numbers_last : e ≡ length rest → numbers_of (split comma s) ≡ with_number ns v
      numbers_last g =
          known ∙ ap (collect ns) cut.pieces ∙ collect_value ns _ _ v h n
          ∙ ap (collect (with_number ns v)) (behind_last comma rest e (omega arith))
          ∙ collect_end (with_number ns v)

      pub numbers_more :
          e < length rest
          → numbers_of (split comma s)
          ≡ collect (with_number ns v) (split comma (take (length rest - (e + 1)) (drop (e + 1) rest)))
      numbers_more g =
          known ∙ ap (collect ns) cut.pieces ∙ collect_value ns _ _ v h n
          ∙ ap (collect (with_number ns v)) (behind_part comma rest e g)
