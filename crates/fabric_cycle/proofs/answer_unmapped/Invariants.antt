-- `fabric_cycle::answer_unmapped` meets its contract. The loop's invariant: the unmapped transfers of the first m masters are answered.
-- Assumes nothing.
use Rattle.description_layout.specs.Layout.{board_in}
use Rattle.fabric_layout.specs.Layout.{state_in}
use Rattle.fabric_layout.specs.Numbers.{Marks}
use Rattle.fabric_cycle.specs.Code.Unmapped.{Answered}
use Rattle.fabric_cycle.proofs.answer_unmapped.Given as goal

abbrev pub invariant-loop-m : goal.invariant-loop-m
invariant-loop-m l =
    Answered (board_in l.board) (state_in l.initial.st) (state_in l.st) l.mask l.m l.initial.buffer l.buffer × Marks l.initial.st l.st
