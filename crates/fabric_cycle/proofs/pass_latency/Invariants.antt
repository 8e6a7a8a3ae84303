-- `fabric_cycle::pass_latency` meets its contract. The loop's invariant: the latency clocks of the first m masters are counted.
-- Assumes nothing.
use Rattle.fabric_layout.specs.Layout.{state_in}
use Rattle.fabric_layout.specs.Numbers.{Marks}
use Rattle.fabric_cycle.specs.Code.Latency.{Counted}
use Rattle.fabric_cycle.proofs.pass_latency.Given as goal

abbrev pub invariant-loop-m : goal.invariant-loop-m
invariant-loop-m l =
    Counted (state_in l.initial.st) (state_in l.st) l.m (record { free = l.free; finished = l.finished }) × Marks l.initial.st l.st
