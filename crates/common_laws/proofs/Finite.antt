-- A test that antt computes at every number below n, and the fact at one of them.
-- Assumes nothing.
use mathlib.Core.Path.{◌≡◌, refl}
use mathlib.Core.Bool.{Bool, true, false, ◌&&◌}
use Prim.Native.Nat.{ℕ, zero, suc, ◌<◌}
use native.Mathlib.Omega.{arith}
use lib.Dec.{T}
use Rattle.common_laws.specs.Lists.{agree}
use Rattle.common_laws.proofs.TableLaws.{below_suc}
use Rattle.common_laws.proofs.Tests.{both_hold}

-- every number below n passes the test; by computation
abbrev pub upto : ℕ → (ℕ → Bool) → Bool
upto zero f = true
upto (suc n) f = f n && upto n f

-- so one of them does
pub each : (f : ℕ → Bool) (n : ℕ) → T (upto n f) → (k : ℕ) → k < n → T (f k)
each f zero t k h = absurd (omega arith)
each f (suc n) t k h =
    let p = both_hold (f n) (upto n f) t in
    below_suc n (each f n p.1) p.0 k h

-- two tests that agree have one answer
pub agree_eq : (a b : Bool) → T (agree a b) → a ≡ b
agree_eq true true t = refl
agree_eq true false t = absurd t
agree_eq false true t = absurd t
agree_eq false false t = refl
