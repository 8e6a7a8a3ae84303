-- The spans of the first n slaves, slave by slave; a list with fewer slaves is read as if empty slaves followed.
-- Assumes nothing.
use mathlib.Core.Path.{◌≡◌, refl}
use mathlib.Core.Bool.{false}
use mathlib.Core.List.{List, [], ◌∷◌}
use mathlib.Core.Logic.{⊎_elim}
use Prim.Native.Nat.{ℕ, zero, suc, ◌+◌, ◌≤◌, ◌<◌}
use native.Mathlib.Nat.{eq-or-lt_of_le}
use native.Mathlib.Omega.{arith}
use lib.ListN.{get_or, take}
use borrow.Author.Tests.{le-ltb}
use Rattle.common_laws.proofs.Tests.{neither}
use Rattle.description_board.specs.Records.{Slave}
use Rattle.description_board.specs.Records.{no_slave, total_span}
use Rattle.description_board.specs.Rules.{meets, overlaps}

module _ (base span : ℕ) where
  meets_none : meets base span no_slave ≡ false
  unfolding meets
  meets_none = rw (le-ltb base 0 (omega arith))

  -- no overlap: the span meets none of them
  pub apart_at : (n : ℕ) (l : List Slave) → overlaps base span (take n l) ≡ false
      → (i : ℕ) → i < n → meets base span (get_or l i no_slave) ≡ false
  unfolding overlaps
  apart_at zero l e i h = absurd (omega arith)
  apart_at (suc n) [] e i h = meets_none
  apart_at (suc n) (x ∷ l) e zero h = (neither (meets base span x) _ e).0
  apart_at (suc n) (x ∷ l) e (suc i) h = apart_at n l (neither (meets base span x) _ e).1 i (omega arith)

  pub all_apart : (n : ℕ) (l : List Slave) → ((i : ℕ) → i < n → meets base span (get_or l i no_slave) ≡ false)
      → overlaps base span (take n l) ≡ false
  unfolding overlaps
  all_apart zero l f = refl
  all_apart (suc n) [] f = refl
  all_apart (suc n) (x ∷ l) f = rw (f 0 (omega arith)) (all_apart n l (λ i h. f (suc i) (omega arith)))

-- one slave more
pub total_suc : (l : List Slave) (n : ℕ) → total_span (take (suc n) l) ≡ total_span (take n l) + (get_or l n no_slave).span
unfolding total_span
total_suc [] zero = refl
total_suc [] (suc n) = refl
total_suc (x ∷ l) zero = omega arith
total_suc (x ∷ l) (suc n) = rw (total_suc l n) (omega arith)

-- the same slaves
pub total_same : (l m : List Slave) (n : ℕ) → ((i : ℕ) → i < n → get_or l i no_slave ≡ get_or m i no_slave)
    → total_span (take n l) ≡ total_span (take n m)
total_same l m zero h = refl
total_same l m (suc n) h =
    rw (total_suc l n, total_suc m n, total_same l m n (λ i s. h i (omega arith)), h n (omega arith))

-- fewer slaves
pub total_fewer : (l : List Slave) (n i : ℕ) → i ≤ n → total_span (take i l) ≤ total_span (take n l)
total_fewer l zero i h = let e : i ≡ 0 = omega arith in rw e (omega arith)
total_fewer l (suc n) i h =
    ⊎_elim (λ e. rw e (omega arith)) (λ s. omega (arith, total_suc l n, total_fewer l n i (omega arith))) (eq-or-lt_of_le h)
