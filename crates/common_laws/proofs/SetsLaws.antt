-- Numbers put one after another into a list of numbers: what stands where then, and lists that agree from an index on.
-- Assumes nothing.
use mathlib.Core.Path.{◌≡◌, refl, ◌∙◌}
use mathlib.Core.List.{List, [], ◌∷◌}
use mathlib.Core.Logic.{◌⊎◌, inl, inr, ⊎_elim}
use Prim.Native.Nat.{ℕ, zero, suc, ◌+◌, ◌*◌, ◌≤◌, ◌<◌}
use native.Mathlib.Nat.{add-zero, mul-suc, mul-le-mul_left}
use native.Mathlib.Omega.{arith}
use lib.ListN.{length, get_or, set, length-set}
use lib.Seq.{sets, get_or-set_same, get_or-set_other}
use Rattle.common_laws.proofs.FillLaws.{below_above}

-- the numbers vs put from index p on: the others stay, and each of them stands at its index
pub sets_outside : (vs l : List ℕ) (p k : ℕ) → (k < p) ⊎ (p + length vs ≤ k) → get_or (sets l p vs) k 0 ≡ get_or l k 0
sets_outside [] l p k h = refl
sets_outside (v ∷ vs) l p k h =
    sets_outside vs (set l p v) (suc p) k (⊎_elim (λ w. inl (omega arith)) (λ w. inr (omega arith)) h)
    ∙ get_or-set_other l p k v 0 (λ e. ⊎_elim (λ w. absurd (omega arith)) (λ w. absurd (omega arith)) h)

pub sets_inside : (vs l : List ℕ) (p j : ℕ) → j < length vs → p + length vs ≤ length l
    → get_or (sets l p vs) (p + j) 0 ≡ get_or vs j 0
sets_inside [] l p j h k = absurd (omega arith)
sets_inside (v ∷ vs) l p zero h k =
    rw add-zero (sets_outside vs (set l p v) (suc p) p (inl (omega arith)) ∙ get_or-set_same l p v 0 (omega arith))
sets_inside (v ∷ vs) l p (suc j) h k =
    let e : p + suc j ≡ suc p + j = omega arith in
    rw e (sets_inside vs (set l p v) (suc p) j (omega arith) (simp length-set (omega arith)))

-- the stores of the code, of two, five and six numbers
abbrev pub five : List ℕ → ℕ → ℕ → ℕ → ℕ → ℕ → ℕ → List ℕ
five l p a b c d e = set (set (set (set (set l p a) (p + 1) b) (p + 2) c) (p + 3) d) (p + 4) e

pub two_sets : (l : List ℕ) (p a b : ℕ) → set (set l p a) (p + 1) b ≡ sets l p (a ∷ b ∷ [])
two_sets l p a b =
    let q : p + 1 ≡ suc p = omega arith in
    rw q

module _ (l : List ℕ) (p a b c d e : ℕ) where
  pub five_sets : five l p a b c d e ≡ sets l p (a ∷ b ∷ c ∷ d ∷ e ∷ [])
  five_sets =
      let q : p + 1 ≡ suc p = omega arith in
      let r : p + 2 ≡ suc (suc p) = omega arith in
      let s : p + 3 ≡ suc (suc (suc p)) = omega arith in
      let t : p + 4 ≡ suc (suc (suc (suc p))) = omega arith in
      rw (q, r, s, t)

  pub six_sets : (f : ℕ) → set (five l p a b c d e) (p + 5) f ≡ sets l p (a ∷ b ∷ c ∷ d ∷ e ∷ f ∷ [])
  six_sets f =
      let q : p + 5 ≡ suc (suc (suc (suc (suc p)))) = omega arith in
      rw (five_sets, q)

-- r has the numbers of l from index q on, n of them
abbrev pub Agree : List ℕ → List ℕ → ℕ → ℕ → Type 0
Agree l r q n = (k : ℕ) → q ≤ k → k < q + n → get_or r k 0 ≡ get_or l k 0

-- what is made of five such numbers is the same
pub five_same : (l r : List ℕ) (q : ℕ) {X : Type 0} (f : ℕ → ℕ → ℕ → ℕ → ℕ → X) → Agree l r q 5
    → f (get_or r q 0) (get_or r (q + 1) 0) (get_or r (q + 2) 0) (get_or r (q + 3) 0) (get_or r (q + 4) 0)
    ≡ f (get_or l q 0) (get_or l (q + 1) 0) (get_or l (q + 2) 0) (get_or l (q + 3) 0) (get_or l (q + 4) 0)
five_same l r q f e =
    rw (
      e q (omega arith) (omega arith),
      e (q + 1) (omega arith) (omega arith),
      e (q + 2) (omega arith) (omega arith),
      e (q + 3) (omega arith) (omega arith),
      e (q + 4) (omega arith) (omega arith),
    )

-- numbers put from p on leave n of them from q on, where the two do not meet
pub sets_apart : (vs l : List ℕ) (p q n : ℕ) → (q + n ≤ p) ⊎ (p + length vs ≤ q) → Agree l (sets l p vs) q n
sets_apart vs l p q n h k low high =
    sets_outside vs l p k (⊎_elim (λ w. inl (omega arith)) (λ w. inr (omega arith)) h)

-- and a number c put at index i before them
module _ (vs l : List ℕ) (p i c : ℕ) (before : i < p) where
  pub counted_apart : (q n : ℕ) → (i < q) ⊎ (q + n ≤ i) → (q + n ≤ p) ⊎ (p + length vs ≤ q)
      → Agree l (set (sets l p vs) i c) q n
  counted_apart q n g h k low high =
      get_or-set_other (sets l p vs) i k c 0 (λ e. ⊎_elim (λ w. absurd (omega arith)) (λ w. absurd (omega arith)) g)
      ∙ sets_apart vs l p q n h k low high

  pub counted_inside : p + length vs ≤ length l → (j : ℕ) → j < length vs
      → get_or (set (sets l p vs) i c) (p + j) 0 ≡ get_or vs j 0
  counted_inside k j h =
      get_or-set_other (sets l p vs) i (p + j) c 0 (λ e. absurd (omega arith)) ∙ sets_inside vs l p j h k

-- records of w numbers each, one behind another from index o on: two different ones do not meet
pub records_apart : (o w i s : ℕ) → (i ≡ s → ⊥) → (o + w * i + w ≤ o + w * s) ⊎ (o + w * s + w ≤ o + w * i)
records_apart o w i s d =
    ⊎_elim (λ h. inl (omega (arith, next i s h))) (λ h. inr (omega (arith, next s i h))) (below_above i s d)
  where
    next : (a b : ℕ) → a < b → w * a + w ≤ w * b
    next a b h = omega (arith, mul-suc w a, mul-le-mul_left w h)
