-- Laws of lists: membership along a list, the first n elements from an index on, one more of the lists made of f 0, f 1, ..
-- Assumes nothing.
use mathlib.Core.Path.{◌≡◌}
use mathlib.Core.Bool.{Bool, true, false, ◌&&◌}
use mathlib.Core.List.{List, [], ◌∷◌, ◌++◌}
use Prim.Native.Nat.{ℕ, ◌+◌, ◌≤◌, ◌<◌}
use native.Mathlib.Numerals.{add-one}
use native.Mathlib.Omega.{arith}
use borrow.Author.Tests.{eq-eqb, ne_eqb}
use lib.Dec.{T, leb, leb→le}
use lib.ListN.{length, get_or, take, drop, length-take, drop_of_length-le}
use lib.Seq.{drop-cons, get_or-take}
use Rattle.common_laws.specs.Lists.{member, gather}
use Rattle.common_laws.proofs.Members.{all, of_member}
use Rattle.common_laws.proofs.Tests.{both_hold}

-- looking for x from index i on: it stands there, it does not, the list is at its end
module _ (x : ℕ) (l : List ℕ) (i : ℕ) where
  pub member_here : i < length l → get_or l i 0 ≡ x → member x (drop i l) ≡ true
  unfolding member
  member_here h e = rw (drop-cons l i 0 h, eq-eqb _ _ e)

  pub member_next : i < length l → (get_or l i 0 ≡ x → ⊥) → member x (drop i l) ≡ member x (drop (i + 1) l)
  unfolding member
  member_next h e = rw (add-one, drop-cons l i 0 h, ne_eqb _ _ e)

  pub member_end : length l ≤ i → member x (drop i l) ≡ false
  unfolding member
  member_end h = rw (drop_of_length-le l h)

-- every number of the list lies between lo and hi
abbrev pub within : ℕ → ℕ → List ℕ → Bool
within lo hi l = all (λ y. leb lo y && leb y hi) l

-- so does a member: for a list written out, `tt` proves the test
pub member_within : (lo hi x : ℕ) (l : List ℕ) → T (within lo hi l) → member x l ≡ true → (lo ≤ x) × (x ≤ hi)
member_within lo hi x l t e =
    let p = both_hold (leb lo x) (leb x hi) (of_member (λ y. leb lo y && leb y hi) l t x e) in
    (leb→le lo x p.0, leb→le x hi p.1)

-- the first n elements from index i on: one more, or none
module _ {X : Type 0} (l : List X) (n i : ℕ) where
  pub drop_take_next : (d : X) → i < n → n ≤ length l → drop i (take n l) ≡ get_or l i d ∷ drop (i + 1) (take n l)
  drop_take_next d h fit =
      let g : i < length (take n l) = simp length-take (omega arith) in
      rw (add-one, drop-cons (take n l) i d g, get_or-take n l i d h)

  pub drop_take_end : n ≤ i → drop i (take n l) ≡ []
  drop_take_end h = drop_of_length-le (take n l) {i = i} (simp length-take (omega arith))

-- one list more
pub gather_suc : {X : Type 0} (f : ℕ → List X) (n : ℕ) → gather f (n + 1) ≡ gather f n ++ f n
unfolding gather
gather_suc f n = rw (add-one n)
