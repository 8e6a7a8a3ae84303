-- `fabric_arbiter::first_requester` meets its contract. The loop's invariant: the search is that among the masters left to try.
-- The measure is how many are left.
-- Assumes nothing.
use Rattle.fabric_arbiter.proofs.ChoiceLaws.{tried_none, turn_on, turn_found}
use Rattle.fabric_arbiter.specs.Choosing.{first_requester}
use mathlib.Core.Path.{refl, sym, ◌∙◌}
use Rattle.fabric_arbiter.proofs.first_requester.Goals as goal

pub loop-left-init : goal.loop-left-init
loop-left-init c = refl

pub loop-left-preserved : goal.loop-left-preserved
loop-left-preserved c = let a = c.before.before in
    turn_on _ _ _ _ _ _ a.before.before.loop-left.invariant a.before.if-left-eq0.false a.next_master-m.ensures
    (sym c.before.is_requesting.ensures ∙ c.if-is_requesting.false)

pub returns-then-left-eq0 : goal.returns-then-left-eq0
unfolding first_requester
returns-then-left-eq0 c = sym (c.before.loop-left.invariant ∙ tried_none _ _ _ _ c.if-left-eq0.true)

pub returns-then-is_requesting : goal.returns-then-is_requesting
unfolding first_requester
returns-then-is_requesting c = let a = c.before.before in
    turn_found _ _ _ _ _ _ a.before.before.loop-left.invariant a.before.if-left-eq0.false a.next_master-m.ensures
    (sym c.before.is_requesting.ensures ∙ c.if-is_requesting.true)
