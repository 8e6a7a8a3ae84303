-- A step for each number of a list, one after another: what the steps make true where each number below n is in the list once, in
-- whatever order. So the lines of one clock may count in any order (rule 6.7).
-- Assumes nothing.
use mathlib.Core.Path.{◌≡◌, refl, sym, ap, ◌∙◌}
use mathlib.Core.Bool.{Bool, true, false, cond}
use mathlib.Core.List.{List, [], ◌∷◌, ◌++◌}
use mathlib.Core.Logic.{◌⊎◌, ⊎_elim, inl, inr, ◌≢◌}
use Prim.Native.Nat.{ℕ, zero, suc, ◌+◌, ◌≤◌, ◌<◌}
use native.Mathlib.Omega.{arith}
use lib.Dec.{eqb, ltb}
use borrow.Author.Tests.{eq-eqb, ne_eqb, ltb-true, ltb-false, lt-ltb, le-ltb}
use Rattle.common_laws.specs.Lists.{table, gather}
use Rattle.fabric_transfer.proofs.MoveLaws.{equal_or, less_or}
use Rattle.theorem_history.specs.Claim.{times}

-- ---- how often a number is in a list

times_same : (k : ℕ) (ks : List ℕ) → times k (k ∷ ks) ≡ times k ks + 1
unfolding times
times_same k ks = rw (eq-eqb k k refl)

times_other : (i k : ℕ) (ks : List ℕ) → i ≢ k → times k (i ∷ ks) ≡ times k ks
unfolding times
times_other i k ks h = rw (ne_eqb i k h)

-- ---- the steps

-- f k for each k of the list, one after another
unfoldable pub steps : {X : Type 0} → (ℕ → X → X) → List ℕ → X → X
steps f [] x = x
steps f (k ∷ ks) x = steps f ks (f k x)

module _
    {X : Type 0} (P Q : ℕ → X → Type 0) (f : ℕ → X → X)
    (own : (k : ℕ) (x : X) → P k x → Q k (f k x))
    (keep : (i k : ℕ) → i ≢ k → (x : X) → P i x → (P k x → P k (f i x)) × (Q k x → Q k (f i x)))
  where
    -- the step of k is still to come, or is done
    abbrev Stage : List ℕ → X → ℕ → Type 0
    Stage ks x k = ((times k ks ≡ 1) × P k x) ⊎ ((times k ks ≡ 0) × Q k x)

    stages : (ks : List ℕ) (x : X) → ((k : ℕ) → Stage ks x k) → (k : ℕ) → Q k (steps f ks x)
    unfolding steps times
    stages [] x h k = ⊎_elim (λ a. absurd (omega arith)) (λ a. a.1) (h k)
    stages (i ∷ ks) x h k = stages ks (f i x) (λ j. ⊎_elim (same j) (other j) (equal_or i j)) k
      where
        here : (times i ks ≡ 0) × P i x
        here =
            ⊎_elim (λ a. (omega (arith, times_same i ks, a.0), a.1)) (λ a. absurd (omega (arith, times_same i ks, a.0)))
            (h i)

        same : (j : ℕ) → i ≡ j → Stage ks (f i x) j
        same j e = rw (← e) (inr (here.0, own i x here.1))

        other : (j : ℕ) → i ≢ j → Stage ks (f i x) j
        other j n =
            let kept = keep i j n x here.1 in
            let t = times_other i j ks n in
            ⊎_elim (λ a. inl (sym t ∙ a.0, kept.0 a.1)) (λ a. inr (sym t ∙ a.0, kept.1 a.1)) (h j)

    -- P k becomes Q k by the step of k, and the steps of the others keep it: in whatever order the numbers below n come
    pub sweep : (n : ℕ) (ks : List ℕ) → ((k : ℕ) → times k ks ≡ cond (ltb k n) 1 0) → (x : X)
        → ((k : ℕ) → k < n → P k x) → ((k : ℕ) → n ≤ k → Q k x) → (k : ℕ) → Q k (steps f ks x)
    sweep n ks once x p q =
        stages ks x
        (λ k.
        ⊎_elim (λ (l : k < n). inl (once k ∙ rw (lt-ltb k n l), p k l))
        (λ (l : n ≤ k). inr (once k ∙ rw (le-ltb k n l), q k l))
        (less_or k n))

-- ---- by number

-- 0, 1, .. n − 1
abbrev pub numbers : ℕ → List ℕ
numbers n = table (λ i. i) n

steps_append : {X : Type 0} (f : ℕ → X → X) (ks : List ℕ) (k : ℕ) (x : X) → steps f (ks ++ (k ∷ [])) x ≡ f k (steps f ks x)
unfolding steps
steps_append f [] k x = refl
steps_append f (i ∷ ks) k x = steps_append f ks k (f i x)

pub steps_none : {X : Type 0} (f : ℕ → X → X) (x : X) → steps f (numbers 0) x ≡ x
unfolding steps table gather
steps_none f x = refl

pub steps_next : {X : Type 0} (f : ℕ → X → X) (n : ℕ) (x : X) → steps f (numbers (suc n)) x ≡ f n (steps f (numbers n) x)
unfolding table gather
steps_next f n x = steps_append f (numbers n) n x

times_append : (s : ℕ) (ks : List ℕ) (k : ℕ) → times s (ks ++ (k ∷ [])) ≡ times s (k ∷ ks)
unfolding times
times_append s [] k = refl
times_append s (i ∷ ks) k = rw (times_append s ks k) (go (eqb i s) (eqb k s))
  where
    go : (c d : Bool)
        → let n = times s ks in
        cond c (cond d (n + 1) n + 1) (cond d (n + 1) n) ≡ cond d (cond c (n + 1) n + 1) (cond c (n + 1) n)
    go true true = refl
    go true false = refl
    go false true = refl
    go false false = refl

pub times_numbers : (n s : ℕ) → times s (numbers n) ≡ cond (ltb s n) 1 0
unfolding table gather times
times_numbers zero s = rw (le-ltb s 0 (omega arith))
times_numbers (suc n) s =
    times_append s (numbers n) n ∙ ⊎_elim (same (times_numbers n s)) (other (times_numbers n s)) (equal_or n s)
  where
    same : times s (numbers n) ≡ cond (ltb s n) 1 0 → n ≡ s → times s (n ∷ numbers n) ≡ cond (ltb s (suc n)) 1 0
    same h e =
        let z : times s (numbers n) ≡ 0 = h ∙ rw (le-ltb s n (omega arith)) in
        rw (eq-eqb n s e, z, lt-ltb s (suc n) (omega arith))

    other : times s (numbers n) ≡ cond (ltb s n) 1 0 → n ≢ s → times s (n ∷ numbers n) ≡ cond (ltb s (suc n)) 1 0
    other h d = times_other n s (numbers n) d ∙ h ∙ ap (λ (c : Bool). cond c 1 0) (go (ltb s n) refl)
      where
        go : (c : Bool) → ltb s n ≡ c → ltb s n ≡ ltb s (suc n)
        go true e = let l = ltb-true s n e in rw (e, lt-ltb s (suc n) (omega arith))
        go false e = let l = ltb-false s n e in rw (e, le-ltb s (suc n) (omega (arith, d)))
