-- `fabric_cycle::late_clocks` meets its contract. The loop's invariant: the clocks of the first m masters are added up.
-- Assumes nothing.
use mathlib.Core.Path.{◌≡◌}
use Prim.Native.Nat.{◌≤◌, ◌*◌}
use Rattle.common_laws.specs.Lists.{sum}
use Rattle.fabric_state.specs.Records.{late_at}
use Rattle.fabric_layout.specs.Layout.{state_in}
use Rattle.fabric_cycle.proofs.late_clocks.Given as goal

abbrev pub invariant-loop-m : goal.invariant-loop-m
invariant-loop-m l =
    (l.total ≤ l.m * 4294967295) × (l.total ≡ sum (late_at (state_in l.st)) l.m)
