-- `fabric_layout::clear_log` meets its contract. The loop's invariant: the first i entries are 0, and all else is as the loop found it.
-- Assumes nothing.
use mathlib.Core.Path.{◌≡◌}
use Rattle.fabric_state.specs.Records.{no_entry}
use Rattle.fabric_layout.specs.Layout.{state_in}
use Rattle.fabric_layout.proofs.LogPutLaws.{log_filled}
use Rattle.fabric_layout.proofs.clear_log.Given as goal

abbrev pub invariant-loop-i : goal.invariant-loop-i
invariant-loop-i l =
    (state_in l.st ≡ log_filled (state_in l.initial.st) (λ k. no_entry) l.i)
