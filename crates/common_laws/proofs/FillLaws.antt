-- A list of f 0, f 1, .. that a loop fills element by element.
-- Assumes nothing.
use mathlib.Core.Path.{◌≡◌, refl, sym, ap, ◌∙◌}
use mathlib.Core.Bool.{Bool, true, false, cond}
use mathlib.Core.List.{List}
use mathlib.Core.Logic.{◌⊎◌, inl, inr}
use Prim.Native.Nat.{ℕ, zero, suc, ◌+◌, ◌≤◌, ◌<◌}
use native.Mathlib.Decide.{ℕ_discrete}
use native.Mathlib.Omega.{arith}
use lib.Dec.{ltb, eqb}
use lib.ListN.{length, get_or, set, length-set}
use lib.Seq.{get_or-set_same, get_or-set_other, ext_get_or}
use borrow.Author.Tests.{lt-ltb, le-ltb, eq-eqb, ne_eqb, ltb-true, ltb-false}
use Rattle.common_laws.specs.Lists.{table, sum}
use Rattle.common_laws.proofs.TableLaws.{length_table, get_or_table}
use Rattle.common_laws.proofs.FrontLaws.{table_same}

-- the same numbers added up
pub sum_same : (f g : ℕ → ℕ) (n : ℕ) → ((i : ℕ) → i < n → f i ≡ g i) → sum f n ≡ sum g n
unfolding sum
sum_same f g zero h = refl
sum_same f g (suc n) h = rw (sum_same f g n (λ i l. h i (omega arith)), h n (omega arith))

module _ {X : Type 0} where
  -- a list of n whose elements are f 0, f 1, ..
  pub table_is : (f : ℕ → X) (n : ℕ) (d : X) (l : List X) → length l ≡ n → ((k : ℕ) → k < n → get_or l k d ≡ f k) → l ≡ table f n
  table_is f n d l e h =
      ext_get_or d l (table f n) (e ∙ sym (length_table f n))
      (λ k i. h k (omega arith) ∙ sym (get_or_table f n d k (omega arith)))

  -- one element set
  pub set_table : (f : ℕ → X) (n i : ℕ) (v : X) → set (table f n) i v ≡ table (λ k. cond (eqb k i) v (f k)) n
  set_table f n i v =
      table_is (λ k. cond (eqb k i) v (f k)) n v (set (table f n) i v) (length-set (table f n) i v ∙ length_table f n)
      (λ k h. go k h (ℕ_discrete k i))
    where
      go : (k : ℕ) → k < n → Dec (k ≡ i) → get_or (set (table f n) i v) k v ≡ cond (eqb k i) v (f k)
      go k h (yes e) =
          let l : i < length (table f n) = rw (length_table f n) (omega arith) in
          rw (eq-eqb k i e, e) (get_or-set_same (table f n) i v v l)
      go k h (no e) = rw (ne_eqb k i e) (get_or-set_other (table f n) i k v v e ∙ get_or_table f n v k h)

-- of n elements the first i are f's, the others are still g's
unfoldable pub filled : {X : Type 0} → (ℕ → X) → (ℕ → X) → ℕ → ℕ → List X
filled f g n i = table (λ k. cond (ltb k i) (f k) (g k)) n

module _ {X : Type 0} (f g : ℕ → X) (n : ℕ) where
  pub filled_none : (d : X) (l : List X) → length l ≡ n → ((k : ℕ) → k < n → get_or l k d ≡ g k) → l ≡ filled f g n 0
  unfolding filled
  filled_none d l e h = table_is _ n d l e (λ k i. h k i ∙ rw (le-ltb k 0 (omega arith)))

  -- one element more: `l` is the list as it stands
  pub filled_next : (i : ℕ) {l : List X} {v : X} → l ≡ filled f g n i → v ≡ f i → set l i v ≡ filled f g n (i + 1)
  unfolding filled
  filled_next i {l} {v} e q =
      ap (λ (x : List X). set x i v) e
      ∙ set_table (λ k. cond (ltb k i) (f k) (g k)) n i v
      ∙ table_same _ _ n (λ k h. go k (ℕ_discrete k i) (ltb k i) refl)
    where
      go : (k : ℕ) → Dec (k ≡ i) → (c : Bool) → ltb k i ≡ c
          → cond (eqb k i) v (cond (ltb k i) (f k) (g k)) ≡ cond (ltb k (i + 1)) (f k) (g k)
      go k (yes p) c s = rw (eq-eqb k i p, lt-ltb k (i + 1) (omega arith), p) q
      go k (no p) true s =
          let h = ltb-true k i s in
          rw (ne_eqb k i p, s, lt-ltb k (i + 1) (omega arith))
      go k (no p) false s =
          let h = ltb-false k i s in
          rw (ne_eqb k i p, s, le-ltb k (i + 1) (omega arith))

  pub filled_all : (i : ℕ) {l : List X} → n ≤ i → l ≡ filled f g n i → l ≡ table f n
  unfolding filled
  filled_all i h e = e ∙ table_same _ _ n (λ k j. rw (lt-ltb k i (omega arith)))

-- a table in which only the element at index s is another
pub table_put : {X : Type 0} (f g : ℕ → X) (n s : ℕ) (x : X) → g s ≡ x → ((i : ℕ) → (i ≡ s → ⊥) → g i ≡ f i)
    → table g n ≡ set (table f n) s x
table_put f g n s x e q = table_same _ _ n (λ i h. go i (ℕ_discrete i s)) ∙ sym (set_table f n s x)
  where
    go : (i : ℕ) → Dec (i ≡ s) → g i ≡ cond (eqb i s) x (f i)
    go i (yes w) = rw (eq-eqb i s w, w) e
    go i (no w) = rw (ne_eqb i s w) (q i w)

-- two different indices: one of them is below the other
pub below_above : (i s : ℕ) → (i ≡ s → ⊥) → (i < s) ⊎ (s < i)
below_above i s w = go (ltb i s) refl
  where
    go : (c : Bool) → ltb i s ≡ c → (i < s) ⊎ (s < i)
    go true t = inl (ltb-true i s t)
    go false t = let h = ltb-false i s t in inr (omega arith)
