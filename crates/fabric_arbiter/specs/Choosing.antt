-- The order in which a slave tries the masters (rule 4.5).
-- Assumes nothing.
use Rattle.std.specs.Prelude.{Bool, cond, ℕ, zero, suc, ◌+◌, ltb, Option, Some, None}

-- rule 4.5: the master that is tried behind m, of n: the next above it, or 0
unfoldable pub next_master : ℕ → ℕ → ℕ
next_master n m = cond (ltb (m + 1) n) (m + 1) 0

-- rule 4.5: the first requester, if there is one, among k masters, from m upward and then from 0, of n
unfoldable pub tried : (ℕ → Bool) → ℕ → ℕ → ℕ → Option ℕ
tried requests n m zero = None
tried requests n m (suc k) = cond (requests m) (Some m) (tried requests n (next_master n m) k)

-- rule 4.5: masters above the last owner first, then from 0, the owner at the end
unfoldable pub first_requester : (ℕ → Bool) → ℕ → ℕ → Option ℕ
first_requester requests n owner = tried requests n (next_master n owner) n
