-- `fabric_layout::remove_oldest` meets its contract. The loop's invariant: each of the first i entries is the one that stood behind it,
-- and all else is as the loop found it.
-- Assumes nothing.
use mathlib.Core.Path.{◌≡◌}
use Rattle.fabric_layout.specs.Layout.{state_in}
use Rattle.fabric_layout.proofs.LogPutLaws.{log_filled, behind}
use Rattle.fabric_layout.proofs.NumbersLaws.{Moved}
use Rattle.fabric_layout.proofs.remove_oldest.Given as goal

abbrev pub invariant-loop-i : goal.invariant-loop-i
invariant-loop-i l =
    (state_in l.st ≡ log_filled (state_in l.initial.st) (behind (state_in l.initial.st)) l.i) × Moved l.initial.st l.st l.i
