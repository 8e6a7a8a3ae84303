-- Sums and lists of f 0, f 1, ..: how large they are, and a sum without one of its numbers.
-- Assumes nothing.
use mathlib.Core.Path.{◌≡◌, ap}
use mathlib.Core.List.{List}
use Prim.Native.Nat.{ℕ, zero, suc, ◌+◌, ◌*◌, ◌≤◌, ◌<◌}
use native.Mathlib.Nat.{suc-mul, eq-or-lt_of_le, le_of_suc-le-suc}
use native.Mathlib.Omega.{arith}
use mathlib.Core.Logic.{⊎_elim}
use lib.ListN.{length, length-append}
use Rattle.common_laws.specs.Lists.{gather, sum}
use Rattle.common_laws.proofs.FillLaws.{sum_same}

module _ {X : Type 0} where
  -- no longer than n times the longest
  pub gather_le : (f : ℕ → List X) (c n : ℕ) → ((k : ℕ) → k < n → length (f k) ≤ c) → length (gather f n) ≤ n * c
  unfolding gather
  gather_le f c zero h = omega arith
  gather_le f c (suc n) h =
      omega (arith, length-append (gather f n) (f n), gather_le f c n (λ k l. h k (omega arith)), h n (omega arith), suc-mul n c)

  -- the room that the first i leave for one more
  pub gather_room : (f : ℕ → List X) (i n : ℕ) → i < n → length (gather f i) + length (f i) ≤ length (gather f n)
  unfolding gather
  gather_room f i zero h = absurd (omega arith)
  gather_room f i (suc n) h =
      ⊎_elim
      (λ e. rw e (omega (arith, length-append (gather f n) (f n))))
      (λ l. omega (arith, length-append (gather f n) (f n), gather_room f i n l))
      (eq-or-lt_of_le (le_of_suc-le-suc h))

pub sum_le : (f : ℕ → ℕ) (c n : ℕ) → ((k : ℕ) → k < n → f k ≤ c) → sum f n ≤ n * c
unfolding sum
sum_le f c zero h = omega arith
sum_le f c (suc n) h = omega (arith, sum_le f c n (λ k l. h k (omega arith)), h n (omega arith), suc-mul n c)

-- g is f but for the number at m, which is 0
pub sum_without : (f g : ℕ → ℕ) (m n : ℕ) → m < n → g m ≡ 0 → ((k : ℕ) → (k ≡ m → ⊥) → g k ≡ f k) → sum g n + f m ≡ sum f n
unfolding sum
sum_without f g m zero h z same = absurd (omega arith)
sum_without f g m (suc n) h z same =
    ⊎_elim
    (λ e. omega (arith, z, ap f e, ap g e, sum_same g f n (λ k l. same k (λ d. absurd (omega arith)))))
    (λ l. omega (arith, sum_without f g m n l z same, same n (λ d. absurd (omega arith))))
    (eq-or-lt_of_le (le_of_suc-le-suc h))
