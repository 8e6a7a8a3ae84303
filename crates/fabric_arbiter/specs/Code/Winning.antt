-- Gives the code of fabric_arbiter and fabric_grant its shape: rule 1 in two steps, who is granted, then the grant.
-- The grant is by that master's shares and beats. The laws that both steps together are `granted` end `GrantLaws`.
-- Assumes nothing.
use Rattle.std.specs.Prelude.{Bool, cond, ◌&&◌, ℕ, ◌-◌, ltb, Option, Some, None}
use Rattle.fabric_arbiter.specs.declared.Arbiter.{Arbiter}
use Rattle.fabric_arbiter.specs.declared.Winner.{Winner}
use Rattle.fabric_arbiter.specs.declared.Winner.TheVariants.{Again, First, NoOne}
use Rattle.fabric_arbiter.specs.Choosing.{first_requester}
use Rattle.fabric_arbiter.specs.Granting.{kept, grant}

-- rules 4.3, 4.5: the first requester, where there is one
unfoldable pub first_of : Option ℕ → Winner
first_of (Some m) = First m
first_of None = NoOne

-- rules 4.3 to 4.5: who is granted: the last owner again, by a grant that remains to it, or the first requester
unfoldable pub winner_of : ℕ → (ℕ → Bool) → Arbiter → Winner
winner_of n requests a =
    cond (requests a.owner && ltb 0 a.remaining) Again (first_of (first_requester requests n a.owner))

-- rules 4.4 to 4.6: the winner's grant: shares are the winner's at this slave, beats those of its transfer
unfoldable pub grant_by : Arbiter → Winner → ℕ → ℕ → Option Arbiter
grant_by a Again shares beats = grant a.owner (kept beats (a.remaining - 1))
grant_by a (First m) shares beats = grant m (kept beats (shares - 1))
grant_by a NoOne shares beats = None
