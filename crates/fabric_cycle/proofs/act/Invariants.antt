-- `fabric_cycle::act` meets its contract: the latency clocks, the pass over the slaves, then the lines of no slave. The loop's
-- invariant is said of every state that can have stood before the latency clocks passed.
-- Assumes nothing.
use Rattle.fabric_state.specs.declared.State.{State}
use Rattle.description_layout.specs.Layout.{board_in}
use Rattle.fabric_layout.specs.Layout.{state_in, lines_in}
use Rattle.fabric_layout.specs.Numbers.{Marks}
use Rattle.fabric_cycle.proofs.PassLaws.{Pass, Begun}
use Rattle.fabric_cycle.proofs.act.Given as goal

abbrev pub invariant-loop-s : goal.invariant-loop-s
invariant-loop-s l =
    ((u : State) → Begun (board_in l.board) u (state_in l.initial.st) l.holders (record { free = l.free; finished = l.initial.finished })
    → Pass (board_in l.board) u (state_in l.st) l.s l.start (lines_in l.initial.lines) (lines_in l.lines) l.finished
    (record { memory = l.initial.memory; buffer = l.initial.buffer }) (record { memory = l.memory; buffer = l.buffer }))
    × Marks l.initial.st l.st
