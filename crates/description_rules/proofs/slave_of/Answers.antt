-- `description_rules::slave_of` meets its contract. The numbers fit their fields, as the test of the values passed.
-- Assumes nothing.
use native.Mathlib.Omega.{arith}
use Rattle.description_board.proofs.RuleLaws.{values_fit}
use Rattle.description_rules.proofs.slave_of.Goals as goal

pub overflow_cast-result : goal.overflow_cast-result
overflow_cast-result c = let v = values_fit _ c.requires in omega arith

pub overflow_cast-result-2 : goal.overflow_cast-result-2
overflow_cast-result-2 c = let v = values_fit _ c.requires in omega arith

pub overflow_cast-result-3 : goal.overflow_cast-result-3
overflow_cast-result-3 c = let v = values_fit _ c.requires in omega arith

pub overflow_cast-result-4 : goal.overflow_cast-result-4
overflow_cast-result-4 c = let v = values_fit _ c.requires in omega arith

pub overflow_cast-result-5 : goal.overflow_cast-result-5
overflow_cast-result-5 c =
    let v = values_fit _ c.requires in
    omega arith

pub overflow_cast-result-6 : goal.overflow_cast-result-6
overflow_cast-result-6 c =
    let v = values_fit _ c.requires in
    omega arith

pub overflow_cast-result-7 : goal.overflow_cast-result-7
overflow_cast-result-7 c =
    let v = values_fit _ c.requires in
    omega arith

pub overflow_cast-result-8 : goal.overflow_cast-result-8
overflow_cast-result-8 c =
    let v = values_fit _ c.requires in
    omega arith
