-- `fabric::run` meets its contract.
-- The loop's invariant: where the run of clocks stands between two of them (`Passing`), responses of 0, and the lengths of
-- the lent bytes.
-- Assumes nothing.
use mathlib.Core.Path.{◌≡◌}
use lib.ListN.{length, replicate}
use Rattle.description_layout.specs.Layout.{board_in}
use Rattle.fabric_layout.specs.Layout.{state_in}
use Rattle.fabric_calls.specs.Calls.{clock_refusal}
use Rattle.fabric.proofs.PassingLaws.{Passing}
use Rattle.fabric.proofs.run.Given as goal

abbrev pub invariant-loop-passed : goal.invariant-loop-passed
invariant-loop-passed l =
    (clock_refusal (board_in l.board) (state_in l.initial.state) (record { memory = l.initial.memory; buffer = l.initial.buffer }) ≡ 0)
    × (Passing (board_in l.board) l.most l.initial.state (record { memory = l.initial.memory; buffer = l.initial.buffer }) l.holders l.unmapped l.state l.lines
    (record { memory = l.memory; buffer = l.buffer }) l.passed)
    × (l.responses ≡ replicate 8 0)
    × (length l.memory ≡ length l.initial.memory)
    × (length l.buffer ≡ length l.initial.buffer)
