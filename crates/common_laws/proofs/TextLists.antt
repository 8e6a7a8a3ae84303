-- Laws of lists that a text's reader and writer use: the same bytes, a part of a slice, a byte that is nowhere, stores in a row.
-- Assumes nothing.
use mathlib.Core.Bool.{Bool, true, false, cond, false≢true}
use mathlib.Core.List.{List, [], ◌∷◌, ◌++◌}
use mathlib.Core.Path.{◌≡◌, refl, ap, sym, ◌∙◌}
use Prim.Native.Nat.{ℕ, suc, ◌+◌, ◌-◌}
use native.Mathlib.Nat.{le_of_eq}
use native.Mathlib.Omega.{arith}
use lib.Dec.{eqb}
use lib.ListN.{length, take, drop, set, length-drop}
use lib.Seq.{take_all, sets}
use borrow.Author.Tests.{eq-eqb, ne_eqb, eqb-true}
use Rattle.std.specs.Bool.{Decides}
use Rattle.std.specs.Cmp.Lexicographic.{pointwise}
use Rattle.std.proofs.lemmas.Bool.Decides.{Decides-eqb}
use Rattle.std.proofs.lemmas.Slice.Eq.{slice_eq-Decides}
use Rattle.common_laws.specs.Lists.{same, member}

-- the test is equality
pub same_refl : (a : List ℕ) → same a a ≡ true
unfolding same
same_refl [] = refl
same_refl (x ∷ xs) = rw (eq-eqb x x refl) (same_refl xs)

pub same_true : (a b : List ℕ) → same a b ≡ true → a ≡ b
unfolding same
same_true [] [] h = refl
same_true [] (y ∷ ys) h = absurd (false≢true h)
same_true (x ∷ xs) [] h = absurd (false≢true h)
same_true (x ∷ xs) (y ∷ ys) h = go (eqb x y) refl h (same_true xs ys)
  where
    go :
        (t : Bool) → eqb x y ≡ t → cond t (same xs ys) false ≡ true → (same xs ys ≡ true → xs ≡ ys)
        → x ∷ xs ≡ y ∷ ys
    go true e h more = rw (eqb-true x y e, more h)
    go false e h more = absurd (false≢true h)

-- so it is what `==` says of two texts, the second lent
pub same_lent : (a b w : List ℕ) (r : Bool) → r ≡ pointwise eqb a b → b ≡ w → r ≡ same a w
same_lent a b w r e f = go r (slice_eq-Decides Decides-eqb a b r e) ∙ ap (same a) f
  where
    other : (t : Bool) → same a b ≡ t → (a ≡ b → false ≡ true) → false ≡ t
    other true e h = h (same_true a b e)
    other false e h = refl

    go : (t : Bool) → Decides t (a ≡ b) → t ≡ same a b
    go true d = rw (d.0 refl) (sym (same_refl b))
    go false d = other (same a b) refl d.1

-- the part of a slice from `at` to its end, as a lent part comes
pub part_rest : (s : List ℕ) (at : ℕ) → take (length s - at) (drop at s) ≡ drop at s
part_rest s at = take_all (length s - at) (drop at s) (le_of_eq (length-drop at s))

pub part_rest_length : (s : List ℕ) (at : ℕ) → length (take (length s - at) (drop at s)) ≡ length s - at
part_rest_length s at = ap length (part_rest s at) ∙ length-drop at s

-- b is in neither of two lists
pub member_append : (b : ℕ) (xs ys : List ℕ) → member b xs ≡ false → member b ys ≡ false → member b (xs ++ ys) ≡ false
unfolding member
member_append b [] ys h g = g
member_append b (x ∷ xs) ys h g = go (eqb x b) h (member_append b xs ys)
  where
    go :
        (t : Bool) → cond t true (member b xs) ≡ false
        → (member b xs ≡ false → member b ys ≡ false → member b (xs ++ ys) ≡ false)
        → cond t true (member b (xs ++ ys)) ≡ false
    go true h more = absurd (false≢true (sym h))
    go false h more = more h g

pub member_one : (b x : ℕ) → (x ≡ b → ⊥) → member b (x ∷ []) ≡ false
unfolding member
member_one b x h = rw (ne_eqb x b h)

-- one row of stores behind another
pub sets_append : (l : List ℕ) (i : ℕ) (vs ws : List ℕ) → sets l i (vs ++ ws) ≡ sets (sets l i vs) (i + length vs) ws
sets_append l i [] ws = ap (λ (k : ℕ). sets l k ws) (omega arith)
sets_append l i (v ∷ vs) ws =
    sets_append (set l i v) (suc i) vs ws
    ∙ ap (λ (k : ℕ). sets (sets (set l i v) (suc i) vs) k ws) (omega arith)
