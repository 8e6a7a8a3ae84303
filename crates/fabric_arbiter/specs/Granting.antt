-- Rule 1, the grant (rules 4.3 to 4.6): who is granted a slave that does not serve, and the grants that remain.
-- Assumes nothing.
use Rattle.std.specs.Prelude.{Bool, cond, ◌&&◌, ℕ, ◌-◌, ltb, Option, Some, None}
use Rattle.fabric_arbiter.specs.declared.Arbiter.{Arbiter}
use Rattle.fabric_arbiter.specs.Choosing.{first_requester}

-- rule 4.6: with two or more beats no grant remains
unfoldable pub kept : ℕ → ℕ → ℕ
kept beats remaining = cond (ltb 1 beats) 0 remaining

-- a grant to master m, to which r grants then remain, is the arbiter that it leaves; where nobody is granted there is none
abbrev pub grant : ℕ → ℕ → Option Arbiter
grant m r = Some (record { owner = m; remaining = r })

-- rules 4.5, 4.6: the grant to the first requester, by its shares; none where there is no requester
unfoldable pub grant_to : (ℕ → ℕ) → (ℕ → ℕ) → Option ℕ → Option Arbiter
grant_to shares beats (Some m) = grant m (kept (beats m) (shares m - 1))
grant_to shares beats None = None

-- rules 4.3 to 4.6: the last owner again, where it requests and has grants remaining, or else the first requester
unfoldable pub granted : ℕ → (ℕ → Bool) → (ℕ → ℕ) → (ℕ → ℕ) → Arbiter → Option Arbiter
granted n requests shares beats a =
    cond (requests a.owner && ltb 0 a.remaining)
    (grant a.owner (kept (beats a.owner) (a.remaining - 1)))
    (grant_to shares beats (first_requester requests n a.owner))

-- rules 4.3, 4.6: the arbiter after the grant; with none the last owner stays, and no grant remains
unfoldable pub arbiter_after : Arbiter → Option Arbiter → Arbiter
arbiter_after a (Some after) = after
arbiter_after a None = record { owner = a.owner; remaining = 0 }
