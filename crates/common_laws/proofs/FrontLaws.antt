-- Laws of lists by their elements: one element set, the first elements of a list of one length filled in, and lists made of
-- f 0, f 1, .. where f may be another.
-- Assumes nothing.
use mathlib.Core.Path.{◌≡◌, refl, sym, ap, ◌∙◌}
use mathlib.Core.Bool.{Bool, true, false, cond}
use mathlib.Core.List.{List, [], ◌∷◌, ◌++◌, append-nil}
use mathlib.Core.Logic.{◌≢◌}
use Prim.Native.Nat.{ℕ, zero, suc, ◌+◌, ◌≤◌, ◌<◌}
use native.Mathlib.Decide.{ℕ_discrete}
use native.Mathlib.Omega.{arith}
use lib.Dec.{ltb}
use lib.ListN.{length, get_or, set, replicate, length-append, length-set, length-replicate}
use lib.Seq.{get_or-set_same, get_or-set_other, set-get_or, ext_get_or}
use borrow.Author.Tests.{ltb-true, ltb-false, lt-ltb, le-ltb}
use Rattle.common_laws.specs.Lists.{gather, table}
use Rattle.common_laws.proofs.ListLaws.{gather_suc}
use Rattle.common_laws.proofs.TableLaws.{length_table, get_or_table, get_or_replicate_all}

-- what is true of the element set, and of the others, is true of each
pub set_each : {X : Type 0} (P : ℕ → X → Type 0) (l : List X) (n : ℕ) (a d : X) → n < length l → P n a
    → (i : ℕ) → (i ≢ n → P i (get_or l i d)) → P i (get_or (set l n a) i d)
set_each P l n a d h p i f = go (ℕ_discrete i n)
  where
    go : Dec (i ≡ n) → P i (get_or (set l n a) i d)
    go (yes e) = rw (e, get_or-set_same l n a d h) p
    go (no e) = rw (get_or-set_other l n i a d e) (f e)

-- the lists are the same
pub gather_same : {X : Type 0} (f g : ℕ → List X) (n : ℕ) → ((i : ℕ) → i < n → f i ≡ g i) → gather f n ≡ gather g n
unfolding gather
gather_same f g zero h = refl
gather_same f g (suc n) h = rw (gather_same f g n (λ i l. h i (omega arith)), h n (omega arith))

pub table_same : {X : Type 0} (f g : ℕ → X) (n : ℕ) → ((i : ℕ) → i < n → f i ≡ g i) → table f n ≡ table g n
unfolding table
table_same f g n h = gather_same (λ i. f i ∷ []) (λ i. g i ∷ []) n (λ i l. rw (h i l))

-- from j on there is nothing more
pub gather_end : {X : Type 0} (f : ℕ → List X) (j n : ℕ) → j ≤ n → ((i : ℕ) → j ≤ i → i < n → f i ≡ []) → gather f n ≡ gather f j
unfolding gather
gather_end f j zero h none = let z : j ≡ 0 = omega arith in rw z
gather_end f j (suc n) h none = go (ℕ_discrete j (suc n)) (λ l. gather_end f j n l (λ i p q. none i p (omega arith)))
  where
    go : Dec (j ≡ suc n) → (j ≤ n → gather f n ≡ gather f j) → gather f n ++ f n ≡ gather f j
    go (yes e) before = rw e
    go (no e) before = rw (none n (omega arith) (omega arith), append-nil) (before (omega arith))

-- one element more, behind those that are the same
pub table_more : {X : Type 0} (f g : ℕ → X) (n : ℕ) (x : X) → ((i : ℕ) → i < n → f i ≡ g i) → f n ≡ x
    → table f (n + 1) ≡ table g n ++ (x ∷ [])
unfolding table
table_more f g n x same new =
    gather_suc (λ i. f i ∷ []) n
    ∙ rw (gather_same (λ i. f i ∷ []) (λ i. g i ∷ []) n (λ i l. rw (same i l)), new)

-- lists of at most one element
pub length_gather : {X : Type 0} (f : ℕ → List X) (n : ℕ) → ((i : ℕ) → length (f i) ≤ 1) → length (gather f n) ≤ n
unfolding gather
length_gather f zero h = omega arith
length_gather f (suc n) h = rw length-append (omega (arith, length_gather f n h, h n))

-- a list of n: f 0, .. f (i − 1), and then d
unfoldable pub front : {X : Type 0} → (ℕ → X) → X → ℕ → ℕ → List X
front f d n i = table (λ k. cond (ltb k i) (f k) d) n

module _ {X : Type 0} (f : ℕ → X) (d : X) (n : ℕ) where
  pub length_front : (i : ℕ) → length (front f d n i) ≡ n
  unfolding front
  length_front i = length_table _ n

  pub front_there : (i k : ℕ) → k < i → k < n → get_or (front f d n i) k d ≡ f k
  unfolding front
  front_there i k h l = rw (get_or_table (λ j. cond (ltb j i) (f j) d) n d k l, lt-ltb k i h)

  pub front_blank : (i k : ℕ) → i ≤ k → k < n → get_or (front f d n i) k d ≡ d
  unfolding front
  front_blank i k h l = rw (get_or_table (λ j. cond (ltb j i) (f j) d) n d k l, le-ltb k i h)

  -- a list with these elements
  pub front_is : (l : List X) (i : ℕ) → length l ≡ n → ((k : ℕ) → k < i → k < n → get_or l k d ≡ f k)
      → ((k : ℕ) → i ≤ k → k < n → get_or l k d ≡ d) → l ≡ front f d n i
  front_is l i e t b =
      ext_get_or d l (front f d n i) (e ∙ sym (length_front i)) (λ k h. go k (omega arith) (ltb k i) refl)
    where
      go : (k : ℕ) → k < n → (c : Bool) → ltb k i ≡ c → get_or l k d ≡ get_or (front f d n i) k d
      go k h true q = let m = ltb-true k i q in t k m h ∙ sym (front_there i k m h)
      go k h false q = let m = ltb-false k i q in b k m h ∙ sym (front_blank i k m h)

  pub front_none : replicate n d ≡ front f d n 0
  front_none =
      front_is (replicate n d) 0 (length-replicate n d) (λ k h l. absurd (omega arith)) (λ k h l. get_or_replicate_all n k d)

  pub front_next : (i : ℕ) → i < n → set (front f d n i) i (f i) ≡ front f d n (i + 1)
  front_next i h =
      let l = front f d n i in
      let fit : i < length l = rw (length_front i) h in
      front_is (set l i (f i)) (i + 1) (length-set l i (f i) ∙ length_front i)
      (λ k m s. set_each (λ j y. j < i + 1 → y ≡ f j) l i (f i) d fit (λ _. refl) k (λ e _. front_there i k (omega arith) s) m)
      (λ k m s. set_each (λ j y. i + 1 ≤ j → y ≡ d) l i (f i) d fit (λ q. absurd (omega arith)) k
      (λ e _. front_blank i k (omega arith) s) m)

  pub front_skip : (i : ℕ) → i < n → f i ≡ d → front f d n i ≡ front f d n (i + 1)
  front_skip i h e =
      let l = front f d n i in
      sym (set-get_or l i d) ∙ ap (set l i) (front_blank i i (omega arith) h ∙ sym e) ∙ front_next i h

  pub front_all : front f d n n ≡ table f n
  unfolding front
  front_all = table_same _ _ n (λ k h. rw (lt-ltb k n h))
