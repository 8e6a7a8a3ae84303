-- `fabric_arbiter::first_requester` meets its contract. The loop's invariant: the search is that among the masters left to try.
-- The measure is how many are left.
-- Assumes nothing.
use Rattle.fabric_arbiter.specs.Choosing.{next_master, tried}
use Rattle.common_laws.specs.Bits.{bit}
use mathlib.Core.Path.{◌≡◌}
use Rattle.fabric_arbiter.proofs.first_requester.Given as goal

abbrev pub invariant-loop-left : goal.invariant-loop-left
invariant-loop-left l =
    tried (bit l.requests) l.n (next_master l.n l.owner) l.n ≡ tried (bit l.requests) l.n (next_master l.n l.m) l.left

abbrev pub decreases-loop-left : goal.decreases-loop-left
decreases-loop-left l =
    l.left
