-- What a test made of tests says of each of them, and of a number that tests choose: what it says where it is 0, and how large it is.
-- Assumes nothing.
use mathlib.Core.Path.{◌≡◌, refl}
use mathlib.Core.Bool.{Bool, true, false, cond, ◌&&◌, ◌||◌, false≢true, true≢false}
use Prim.Native.Nat.{ℕ, suc, ◌≤◌}
use native.Mathlib.Omega.{arith}
use lib.Dec.{T}

pub both : (a b : Bool) → (a && b) ≡ true → (a ≡ true) × (b ≡ true)
both true b e = (refl, e)
both false b e = absurd (false≢true e)

-- the same of tests that antt computes
pub both_hold : (a b : Bool) → T (a && b) → T a × T b
both_hold true b t = (tt, t)
both_hold false b t = absurd t

pub neither : (a b : Bool) → (a || b) ≡ false → (a ≡ false) × (b ≡ false)
neither true b e = absurd (true≢false e)
neither false b e = (refl, e)

-- a refusal's number is not 0: the test failed, and what follows says 0
pub passed : (t : Bool) (n x : ℕ) → cond t (suc n) x ≡ 0 → (t ≡ false) × (x ≡ 0)
passed true n x e = absurd (omega arith)
passed false n x e = (refl, e)

-- a refusal's number, and what follows, are at most k: so is what is answered
pub at_most : {k : ℕ} (t : Bool) (n x : ℕ) → n ≤ k → x ≤ k → cond t n x ≤ k
at_most true n x p q = p
at_most false n x p q = q
