-- Laws of the numbers below n that pass a test: which they are, their order, and what they are where those that pass stand side
-- by side.
-- Assumes nothing.
use mathlib.Core.Path.{◌≡◌, refl, sym, ◌∙◌}
use mathlib.Core.Bool.{Bool, true, false, cond, ◌&&◌, ◌||◌, and-false, or-true, or-false}
use mathlib.Core.List.{List, [], ◌∷◌, ◌++◌, append-nil}
use Prim.Native.Nat.{ℕ, zero, suc, ◌+◌, ◌≤◌, ◌<◌}
use native.Mathlib.Nat.{add-zero, add-suc}
use native.Mathlib.Decide.{ℕ_discrete}
use native.Mathlib.Omega.{arith}
use lib.Dec.{eqb, leb, ltb}
use lib.ListN.{length, get_or, length-append, get_or-append}
use lib.Seq.{get_or_at}
use borrow.Author.Tests.{eq-eqb, ne_eqb, lt-ltb, le-ltb, le-leb, lt-leb, ltb-true, ltb-false}
use Rattle.common_laws.specs.Lists.{member, gather, table, filtered}
use Rattle.common_laws.proofs.TableLaws.{below_suc}
use Rattle.common_laws.proofs.FrontLaws.{gather_same, gather_end, length_gather}

-- x among the numbers of a list and one behind it
member_append : (x y : ℕ) (l : List ℕ) → member x (l ++ (y ∷ [])) ≡ (member x l || eqb y x)
unfolding member
member_append x y [] = go (eqb y x)
  where
    go : (c : Bool) → cond c true false ≡ c
    go true = refl
    go false = refl
member_append x y (z ∷ l) = go (eqb z x) (member_append x y l)
  where
    go : (c : Bool) → member x (l ++ (y ∷ [])) ≡ (member x l || eqb y x)
        → cond c true (member x (l ++ (y ∷ []))) ≡ (cond c true (member x l) || eqb y x)
    go true e = refl
    go false e = e

-- x is below n + 1, and not n
below_next : (n x : ℕ) → (n ≡ x → ⊥) → ltb x n ≡ ltb x (suc n)
below_next n x f = go (ltb x n) refl
  where
    go : (c : Bool) → ltb x n ≡ c → c ≡ ltb x (suc n)
    go true e = sym (lt-ltb x (suc n) (omega (arith, ltb-true x n e)))
    go false e = sym (le-ltb x (suc n) (omega (arith, ltb-false x n e, f)))

module _ (test : ℕ → Bool) where
  -- number n passes, or not
  filtered_next : (n : ℕ) → test n ≡ true → filtered test (suc n) ≡ filtered test n ++ (n ∷ [])
  unfolding filtered gather
  filtered_next n e = rw e

  filtered_skip : (n : ℕ) → test n ≡ false → filtered test (suc n) ≡ filtered test n
  unfolding filtered gather
  filtered_skip n e = rw (e, append-nil)

  pub length_filtered : (n : ℕ) → length (filtered test n) ≤ n
  unfolding filtered
  length_filtered n = length_gather _ n (λ i. go i (test i))
    where
      go : (i : ℕ) (c : Bool) → length (cond c (i ∷ []) []) ≤ 1
      go i true = omega arith
      go i false = omega arith

  -- each is below n
  pub filtered_below : (n k : ℕ) → k < length (filtered test n) → get_or (filtered test n) k 0 < n
  filtered_below zero k h = absurd (omega (arith, length_filtered 0))
  filtered_below (suc n) k h = go (test n) refl (filtered_below n)
    where
      go : (c : Bool) → test n ≡ c → ((i : ℕ) → i < length (filtered test n) → get_or (filtered test n) i 0 < n)
          → get_or (filtered test (suc n)) k 0 < suc n
      go false e f =
          let l : k < length (filtered test n) = rw (filtered_skip n e) at h in
          rw (filtered_skip n e) (omega (arith, f k l))
      go true e f =
          rw (filtered_next n e)
          (below_suc {P = λ i. get_or (filtered test n ++ (n ∷ [])) i 0 < suc n} (length (filtered test n))
          (λ i l. rw (get_or-append (filtered test n) (n ∷ []) 0 i l) (omega (arith, f i l)))
          (rw (get_or_at (filtered test n) n [] 0 (length (filtered test n)) refl) (omega arith)) k
          (omega (arith, rw (filtered_next n e, length-append) at h)))

  -- and passes
  pub filtered_passes : (n k : ℕ) → k < length (filtered test n) → test (get_or (filtered test n) k 0) ≡ true
  filtered_passes zero k h = absurd (omega (arith, length_filtered 0))
  filtered_passes (suc n) k h = go (test n) refl (filtered_passes n)
    where
      go : (c : Bool) → test n ≡ c
          → ((i : ℕ) → i < length (filtered test n) → test (get_or (filtered test n) i 0) ≡ true)
          → test (get_or (filtered test (suc n)) k 0) ≡ true
      go false e f = rw (filtered_skip n e) (f k (rw (filtered_skip n e) at h))
      go true e f =
          rw (filtered_next n e)
          (below_suc {P = λ i. test (get_or (filtered test n ++ (n ∷ [])) i 0) ≡ true} (length (filtered test n))
          (λ i l. rw (get_or-append (filtered test n) (n ∷ []) 0 i l) (f i l))
          (rw (get_or_at (filtered test n) n [] 0 (length (filtered test n)) refl) e) k
          (omega (arith, rw (filtered_next n e, length-append) at h)))

  -- they rise, so that none comes twice
  pub filtered_rising : (n k l : ℕ) → k < l → l < length (filtered test n)
      → get_or (filtered test n) k 0 < get_or (filtered test n) l 0
  filtered_rising zero k l h m = absurd (omega (arith, length_filtered 0))
  filtered_rising (suc n) k l h m = go (test n) refl (λ i. filtered_rising n k i)
    where
      go : (c : Bool) → test n ≡ c
          → ((i : ℕ) → k < i → i < length (filtered test n) → get_or (filtered test n) k 0 < get_or (filtered test n) i 0)
          → get_or (filtered test (suc n)) k 0 < get_or (filtered test (suc n)) l 0
      go false e f = rw (filtered_skip n e) (f l h (rw (filtered_skip n e) at m))
      go true e f =
          let before = filtered test n in
          rw (filtered_next n e)
          (below_suc {P = λ i. k < i → get_or (before ++ (n ∷ [])) k 0 < get_or (before ++ (n ∷ [])) i 0} (length before)
          (λ i p q. rw (get_or-append before (n ∷ []) 0 k (omega arith), get_or-append before (n ∷ []) 0 i p) (f i q p))
          (λ q. rw (get_or-append before (n ∷ []) 0 k q, get_or_at before n [] 0 (length before) refl) (filtered_below n k q))
          l (omega (arith, rw (filtered_next n e, length-append) at m)) h)

  -- and are exactly those that pass
  pub filtered_member : (n x : ℕ) → member x (filtered test n) ≡ (ltb x n && test x)
  unfolding member filtered gather
  filtered_member zero x = rw (le-ltb x 0 (omega arith))
  filtered_member (suc n) x = go (test n) refl (ℕ_discrete n x) (filtered_member n x)
    where
      go : (c : Bool) → test n ≡ c → Dec (n ≡ x) → member x (filtered test n) ≡ (ltb x n && test x)
          → member x (filtered test (suc n)) ≡ (ltb x (suc n) && test x)
      go true e (yes q) f =
          rw (filtered_next n e, member_append, eq-eqb n x q, or-true) (rw (← q, lt-ltb n (suc n) (omega arith), e))
      go true e (no q) f = rw (filtered_next n e, member_append, ne_eqb n x q, or-false, f, below_next n x q)
      go false e (yes q) f = rw (filtered_skip n e, f) (rw (← q, e, and-false, and-false))
      go false e (no q) f = rw (filtered_skip n e, f, below_next n x q)

  -- where all pass, all
  pub filtered_all : (n : ℕ) → ((i : ℕ) → i < n → test i ≡ true) → filtered test n ≡ table (λ i. i) n
  unfolding filtered table
  filtered_all n h = gather_same _ _ n (λ i l. rw (h i l))

  -- where c of them from lo on pass and no others, these
  pub filtered_between : (lo c n : ℕ) → lo + c ≤ n → ((i : ℕ) → i < n → test i ≡ (leb lo i && ltb i (lo + c)))
      → filtered test n ≡ table (λ k. lo + k) c
  unfolding filtered table gather
  filtered_between lo c n fits h =
      gather_end _ (lo + c) n fits
      (λ i p q. rw (h i q, le-ltb i (lo + c) p, and-false)) ∙ run c (omega arith)
    where
      f : ℕ → List ℕ
      f i = cond (test i) (i ∷ []) []

      run : (k : ℕ) → k ≤ c → gather f (lo + k) ≡ table (λ j. lo + j) k
      run zero p =
          rw add-zero (gather_end f 0 lo (omega arith) (λ i a b. rw (h i (omega arith), lt-leb lo i b)))
      run (suc k) p =
          rw (add-suc, run k (omega arith), h (lo + k) (omega arith), le-leb lo (lo + k) (omega arith))
          (rw (lt-ltb (lo + k) (lo + c) (omega arith)))
