-- The loop of `simulate::obey::Simulator::obey_lines`: at each pass the reader's positions are within the input.
-- Assumes nothing.
use Rattle.std.proofs.Common.{◌≤◌}
use Rattle.simulate.proofs.obey.Simulator.obey_lines.Given as goal

abbrev pub invariant-loop : goal.invariant-loop
invariant-loop l = (l.reader.end ≤ 131200) × (l.reader.stop ≤ 131200)
