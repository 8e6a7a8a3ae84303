-- `fabric_layout::reset_state` meets its contract.
-- The loop's invariant: no transfer is held, no latency clocks are to pass, the log is empty, and the first s slots are those of a
-- reset. The array keeps its length.
-- Assumes nothing.
use mathlib.Core.Path.{◌≡◌}
use lib.ListN.{length, replicate}
use Rattle.common_laws.proofs.FillLaws.{filled}
use Rattle.fabric_transfer.specs.Accesses.{no_transfer}
use Rattle.fabric_state.specs.Records.{no_log, slot_at}
use Rattle.fabric_layout.specs.Layout.{state_in}
use Rattle.fabric_layout.specs.Code.Puts.{reset_slot}
use Rattle.fabric_layout.proofs.reset_state.Given as goal

abbrev pub invariant-loop-s : goal.invariant-loop-s
invariant-loop-s l =
    ((state_in l.st).transfers ≡ replicate 8 no_transfer)
    × ((state_in l.st).late ≡ replicate 8 0) × ((state_in l.st).log ≡ no_log)
    × ((state_in l.st).slots ≡ filled (reset_slot l.owner l.n) (slot_at (state_in l.initial.st)) 16 l.s)
    × (length l.st ≡ 154)
