-- The first requester, one master at a time, as the loop tries them.
-- Assumes nothing.
use mathlib.Core.Path.{◌≡◌, refl}
use mathlib.Core.Bool.{Bool, true, false}
use Prim.Native.Nat.{ℕ, zero, suc, ◌-◌}
use native.Mathlib.Omega.{arith}
use Rattle.std.specs.Prelude.{Option, Some, None}
use Rattle.fabric_arbiter.specs.Choosing.{next_master, tried}

module _ (requests : ℕ → Bool) (n m : ℕ) where
  pub tried_none : (k : ℕ) → k ≡ 0 → tried requests n m k ≡ None
  unfolding tried
  tried_none k e = rw e

  pub tried_found : (k : ℕ) → (k ≡ 0 → ⊥) → requests m ≡ true → tried requests n m k ≡ Some m
  unfolding tried
  tried_found zero ne q = absurd (ne refl)
  tried_found (suc k) ne q = rw q

  pub tried_on : (k : ℕ) → (k ≡ 0 → ⊥) → requests m ≡ false → tried requests n m k ≡ tried requests n (next_master n m) (k - 1)
  unfolding tried
  tried_on zero ne q = absurd (ne refl)
  tried_on (suc k) ne q =
      let e : suc k - 1 ≡ k = omega arith in
      rw (q, e)

-- a turn of the loop: x is the whole search, m the master tried last, m' the next, left how many are left to try
module _
    (requests : ℕ → Bool) (n m m' left : ℕ) (x : Option ℕ) (rest : x ≡ tried requests n (next_master n m) left)
    (more : left ≡ 0 → ⊥) (next : m' ≡ next_master n m)
  where
    pub turn_on : requests m' ≡ false → x ≡ tried requests n (next_master n m') (left - 1)
    turn_on q = cc (tried_on requests n m' left more q)

    pub turn_found : requests m' ≡ true → Some m' ≡ x
    turn_found q = cc (tried_found requests n m' left more q)
