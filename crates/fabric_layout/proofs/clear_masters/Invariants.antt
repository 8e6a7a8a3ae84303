-- `fabric_layout::clear_masters` meets its contract. The loop's invariant: the first m transfers are none, with no latency clocks.
-- Assumes nothing.
use mathlib.Core.Path.{◌≡◌}
use Rattle.common_laws.proofs.FillLaws.{filled}
use Rattle.fabric_transfer.specs.Accesses.{no_transfer}
use Rattle.fabric_state.specs.Records.{transfer_at, late_at}
use Rattle.fabric_layout.specs.Layout.{state_in}
use Rattle.fabric_layout.proofs.clear_masters.Given as goal

abbrev pub invariant-loop-m : goal.invariant-loop-m
invariant-loop-m l =
    ((state_in l.st).transfers ≡ filled (λ k. no_transfer) (transfer_at (state_in l.initial.st)) 8 l.m)
    × ((state_in l.st).late ≡ filled (λ k. 0) (late_at (state_in l.initial.st)) 8 l.m)
