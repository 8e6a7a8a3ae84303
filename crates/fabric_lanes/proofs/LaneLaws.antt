-- Lane legality: what the tests of `legal_lanes` decide together, and that legal lanes lie below the width.
-- Assumes nothing.
use mathlib.Core.Path.{◌≡◌, refl, ap₂, ◌∙◌}
use mathlib.Core.Bool.{Bool, true, false, ◌&&◌, ◌||◌, false≢true}
use mathlib.Core.List.{[], ◌∷◌}
use Prim.Native.Nat.{ℕ, zero, suc, ◌+◌, ◌-◌, ◌*◌, ◌/◌, ◌%◌, ◌^◌, ◌≤◌, ◌<◌}
use native.Mathlib.Nat.{lt_of_lt_of_le}
use native.Mathlib.Omega.{arith}
use lib.Bits.{bit_and}
use lib.Count.{ones, ones_in, count_trailing_zeros, trailing_le}
use lib.Dec.{T, eqb, leb, ltb, eqb→eq, leb→le}
use lib.Pow.{pow_mono, shl_lt, ones_lt}
use borrow.Author.Tests.{ne_eqb, le-ltb, eqb-true, eqb-false, leb-true, ltb-false}
use Rattle.common_laws.specs.Lists.{member, agree}
use Rattle.common_laws.proofs.Finite.{each, agree_eq}
use Rattle.common_laws.proofs.Tests.{both, both_hold, neither}
use Rattle.fabric_lanes.specs.Lanes.{lowest, all_lanes, adjacent, legal_lanes, post_lanes}

-- legal lanes are some, adjacent, and lie below the width
legal_parts : (w l : ℕ) → legal_lanes w l ≡ true
    → (member (ones l) (1 ∷ 2 ∷ 4 ∷ 8 ∷ []) ≡ true) × (adjacent l ≡ true) × (leb (lowest l + ones l) w ≡ true)
unfolding legal_lanes
legal_parts w l e =
    let p = both (member (ones l) (1 ∷ 2 ∷ 4 ∷ 8 ∷ [])) _ e in
    let q = both (adjacent l) _ p.1 in
    let r = both (eqb (lowest l % ones l) 0) _ q.1 in
    (p.0, q.0, r.1)

legal_some : (w l : ℕ) → legal_lanes w l ≡ true → l ≡ 0 → ⊥
unfolding ones ones_in member
legal_some w l e z = false≢true (rw z at (legal_parts w l e).0)

pub legal_adjacent : (w l : ℕ) → legal_lanes w l ≡ true → l ≡ all_lanes (ones l) * 2 ^ lowest l
unfolding adjacent
legal_adjacent w l e = eqb-true _ _ (legal_parts w l e).1

pub legal_below : (w l : ℕ) → legal_lanes w l ≡ true → lowest l + ones l ≤ w
legal_below w l e = leb-true _ _ (legal_parts w l e).2

-- so that they are bits of a word, and of a byte
pub legal_word : (w l : ℕ) → legal_lanes w l ≡ true → l < 2 ^ w
legal_word w l e =
    let below : all_lanes (ones l) * 2 ^ lowest l < 2 ^ (ones l + lowest l) = shl_lt (ones l) (lowest l) (ones_lt (ones l)) in
    let room : ones l + lowest l ≤ w = omega (arith, legal_below w l e) in
    rw (legal_adjacent w l e) (lt_of_lt_of_le below (pow_mono room))

pub legal_lt : (w l : ℕ) → w ≤ 8 → legal_lanes w l ≡ true → l < 256
legal_lt w l h e = lt_of_lt_of_le (legal_word w l e) (pow_mono h)

-- no lane, or one above the eighth
pub outside : (w l : ℕ) → w ≤ 8 → (eqb l 0 || ltb 255 l) ≡ true → false ≡ legal_lanes w l
outside w l h e = go (legal_lanes w l) refl
  where
    go : (b : Bool) → legal_lanes w l ≡ b → false ≡ b
    go false q = refl
    go true q = absurd (false≢true (rw (ne_eqb l 0 (legal_some w l q), le-ltb 255 l (omega (arith, legal_lt w l h q))) at e))

-- the tests of a mask alone
abbrev tests : ℕ → Bool
tests l =
    (eqb (l / 2 ^ count_trailing_zeros 32 l) (all_lanes (ones l)) && eqb (bit_and (ones l) (ones l - 1)) 0)
    && eqb (bit_and (count_trailing_zeros 32 l) (ones l - 1)) 0

abbrev rules : ℕ → Bool
rules l = member (ones l) (1 ∷ 2 ∷ 4 ∷ 8 ∷ []) && (adjacent l && eqb (lowest l % ones l) 0)

-- computed at every mask of a byte that is not 0
mask_test : ℕ → Bool
unfolding ones ones_in count_trailing_zeros lowest adjacent member
mask_test l = agree (tests l) (rules l) && (eqb (count_trailing_zeros 32 l) (lowest l) && leb 1 (ones l))

mask : (l : ℕ) → 0 < l → l < 256 → T (mask_test l)
unfolding mask_test ones ones_in count_trailing_zeros lowest adjacent member
mask zero p h = absurd (omega arith)
mask (suc n) p h = each (λ k. mask_test (suc k)) 255 tt n (omega arith)

regroup : (a b c d : Bool) → ((a && (b && c)) && d) ≡ (a && (b && (c && d)))
regroup false b c d = refl
regroup true false c d = refl
regroup true true c d = refl

-- a mask that is not outside
module _ (l : ℕ) (e : (eqb l 0 || ltb 255 l) ≡ false) where
  computed : T (mask_test l)
  computed =
      let p = neither (eqb l 0) _ e in
      mask l (omega (arith, eqb-false l 0 p.0)) (omega (arith, ltb-false 255 l p.1))

  pub mask_lt : l < 256
  mask_lt = omega (arith, ltb-false 255 l (neither (eqb l 0) _ e).1)

  agreed : (tests l ≡ rules l) × (count_trailing_zeros 32 l ≡ lowest l) × (1 ≤ ones l)
  unfolding mask_test
  agreed =
      let p = both_hold (agree (tests l) (rules l)) _ computed in
      let q = both_hold (eqb (count_trailing_zeros 32 l) (lowest l)) _ p.1 in
      (agree_eq _ _ p.0, eqb→eq _ _ q.0, leb→le _ _ q.1)

  pub some_count : 1 ≤ ones l
  some_count = agreed.2

  pub few_below : count_trailing_zeros 32 l ≤ 8
  unfolding lowest
  few_below = omega (arith, agreed.1, trailing_le 8 l)

  -- the tests of `legal_lanes` are the rules
  pub tested : (w all : ℕ) → all ≡ all_lanes (ones l)
      → (((eqb (l / 2 ^ count_trailing_zeros 32 l) all && eqb (bit_and (ones l) (ones l - 1)) 0)
      && eqb (bit_and (count_trailing_zeros 32 l) (ones l - 1)) 0) && leb (count_trailing_zeros 32 l + ones l) w) ≡ legal_lanes w l
  unfolding legal_lanes
  tested w all a =
      rw a (ap₂ (λ (x : Bool) (n : ℕ). x && leb (n + ones l) w) agreed.0 agreed.1
      ∙ regroup (member (ones l) (1 ∷ 2 ∷ 4 ∷ 8 ∷ [])) (adjacent l) (eqb (lowest l % ones l) 0) _)

-- the lowest of legal lanes, found in 32 bits
pub legal_lowest : (w l : ℕ) → w ≤ 8 → legal_lanes w l ≡ true → count_trailing_zeros 32 l ≡ lowest l
legal_lowest w l h e =
    (agreed l (rw (ne_eqb l 0 (legal_some w l e), le-ltb 255 l (omega (arith, legal_lt w l h e))))).1

-- the tests of `post_lanes` are the rules
pub posted : (w l n : ℕ) {legal : Bool} {all : ℕ} → legal ≡ legal_lanes w l → all ≡ all_lanes w
    → (legal && (leb n 1 || eqb l all)) ≡ post_lanes w l n
unfolding post_lanes
posted w l n e a = rw (e, a)
