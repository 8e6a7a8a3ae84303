-- `description_check::accepts` meets its contract. What the tests say together makes the board legal, and a legal board is accepted.
-- Assumes nothing.
use Rattle.std.proofs.Common.{rules}
use Rattle.description_check.proofs.AcceptLaws.{parts_accepted}
use Rattle.description_check.proofs.accepts.Goals as goal

pub returns : goal.returns
returns c =
    λ e. parts_accepted _ _ _ c.master_count-m.ensures c.slave_count-s.ensures (search rules, search rules) (search rules, search rules)
    (c.masters_fit.ensures c.if-not-masters_fit.false) c.in-Some.ensures (c.natives_fit.ensures c.if-not-natives_fit.false)
    (c.shares_fit.ensures c.if-not-shares_fit.false) c.without_share.ensures e
