-- `wait_turns::figures_by` meets its contract: the own turn is one of those added up.
-- Assumes nothing.
use Prim.Native.Nat.{◌≤◌}
use native.Mathlib.Omega.{arith}
use Rattle.wait_turns.proofs.TurnSums.{own_within, figures_at}
use Rattle.wait_turns.proofs.figures_by.Goals as goal

pub returns : goal.returns
returns c =
    let pre = c.requires in
    let own = c.turn_at-own.ensures in
    let within : c.turn_at-own.result ≤ c.args.t.sum = own_within _ _ _ pre.1 pre.0.master own in
    figures_at _ _ _ pre.1 pre.0.master c.slave_at-slave.ensures own (omega (arith, within)) c.master_at-master.ensures c.serve.ensures
