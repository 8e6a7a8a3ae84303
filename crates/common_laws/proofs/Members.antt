-- A test that antt computes at every number of a list, and the fact at one of them.
-- Assumes nothing.
use mathlib.Core.Path.{◌≡◌}
use mathlib.Core.Bool.{Bool, true, ◌&&◌}
use mathlib.Core.List.{List, [], ◌∷◌}
use Prim.Native.Nat.{ℕ}
use lib.Dec.{T}
use Rattle.common_laws.specs.Lists.{member}
use Rattle.common_laws.proofs.TableLaws.{Each, member_each}
use Rattle.common_laws.proofs.Tests.{both_hold}

-- every number of the list passes the test; by computation
abbrev pub all : (ℕ → Bool) → List ℕ → Bool
all f [] = true
all f (x ∷ xs) = f x && all f xs

all_each : (f : ℕ → Bool) (xs : List ℕ) → T (all f xs) → Each (λ x. T (f x)) xs
all_each f [] t = tt
all_each f (x ∷ xs) t = let p = both_hold (f x) (all f xs) t in (p.0, all_each f xs p.1)

-- so one of them does
pub of_member : (f : ℕ → Bool) (xs : List ℕ) → T (all f xs) → (x : ℕ) → member x xs ≡ true → T (f x)
of_member f xs t x e = member_each (λ y. T (f y)) x xs (all_each f xs t) e
