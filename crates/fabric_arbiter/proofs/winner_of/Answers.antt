-- `fabric_arbiter::winner_of` meets its contract: no request, the last owner again, the first requester, nobody.
-- Assumes nothing.
use mathlib.Core.Path.{sym, ◌∙◌}
use Rattle.common_laws.specs.Bits.{bit}
use Rattle.fabric_arbiter.specs.Code.Winning.{first_of}
use Rattle.fabric_arbiter.proofs.GrantLaws.{PassedOver, none_requests, none_remaining, owner_silent, owner_again, search_wins}
use Rattle.fabric_arbiter.proofs.winner_of.Goals.{Joined-else-is_requesting}
use Rattle.fabric_arbiter.proofs.winner_of.Goals.{else-is_requesting-via-then-is_requesting+else-a-gt0, else-is_requesting-via-else-is_requesting}
use Rattle.fabric_arbiter.proofs.winner_of.Goals as goal

pub returns-then-requests-eq0 : goal.returns-then-requests-eq0
returns-then-requests-eq0 c = none_requests _ _ _ c.if-requests-eq0.true

pub returns-then-a-gt0 : goal.returns-then-a-gt0
returns-then-a-gt0 c = owner_again _ _ _ (sym c.is_requesting.ensures ∙ c.if-is_requesting.true) c.if-a-gt0.true

-- the last owner was passed over, whichever test said so
passed : (c : Joined-else-is_requesting) → PassedOver c.args.n (bit c.args.requests) c.args.a
passed c =
    elim c.else-is_requesting.branch [
      | else-is_requesting-via-then-is_requesting+else-a-gt0 w ↦ none_remaining _ _ _ w.if-a-gt0.false
      | else-is_requesting-via-else-is_requesting w ↦ owner_silent _ _ _ (sym c.is_requesting.ensures ∙ w.if-is_requesting.false)
    ]

pub returns-in-Some : goal.returns-in-Some
unfolding first_of
returns-in-Some c = search_wins _ _ _ _ (passed (goal.at.returns-in-Some c).Joined-else-is_requesting) c.in-Some.ensures

pub returns-in-None : goal.returns-in-None
unfolding first_of
returns-in-None c = search_wins _ _ _ _ (passed (goal.at.returns-in-None c).Joined-else-is_requesting) c.in-None.ensures
