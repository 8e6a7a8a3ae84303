-- `description_rules::add_line` meets its contract. The numbers fit their fields, and there is room, as the line is not refused.
-- Assumes nothing.
use Rattle.std.proofs.Common.{sym, refl, arith}
use Rattle.std.proofs.lemmas.Result.{err_from_is_err_and}
use Rattle.description_board.proofs.RuleLaws.{master_taken, slave_taken}
use Rattle.description_board.specs.Rules.{item_refusal}
use Rattle.description_rules.proofs.ReadingLaws.{line_refused, master_added, slave_added, default_added}
use Rattle.description_rules.specs.Code.Readings.{reading_of}
use Rattle.description_rules.proofs.add_line.Goals as goal

pub returns-in_err-master_refusal-in-MasterLine : goal.returns-in_err-master_refusal-in-MasterLine
unfolding item_refusal reading_of
returns-in_err-master_refusal-in-MasterLine c =
    let p = err_from_is_err_and c.from_residual.result c.from_residual.ensures.1 in
    rw (c.in-MasterLine.is, p.1, p.2) (line_refused _ _ _ _ _ c.in_err-master_refusal-in-MasterLine.ensures)

pub overflow_cast-width : goal.overflow_cast-width
overflow_cast-width c = let t = master_taken _ _ _ (sym c.in_ok-master_refusal-in-MasterLine.ensures) in omega arith

pub overflow_cast-burst : goal.overflow_cast-burst
overflow_cast-burst c = let t = master_taken _ _ _ (sym c.in_ok-master_refusal-in-MasterLine.ensures) in omega arith

pub put_master-requires : goal.put_master-requires
put_master-requires c = (master_taken _ _ _ (sym c.in_ok-master_refusal-in-MasterLine.ensures)).room

pub returns-in_err-slave_refusal-in-SlaveLine : goal.returns-in_err-slave_refusal-in-SlaveLine
unfolding item_refusal reading_of
returns-in_err-slave_refusal-in-SlaveLine c =
    let p = err_from_is_err_and c.from_residual-in_err-slave_refusal-in-SlaveLine.result c.from_residual-in_err-slave_refusal-in-SlaveLine.ensures.1 in
    rw (c.in-SlaveLine.is, p.1, p.2) (line_refused _ _ _ _ _ c.in_err-slave_refusal-in-SlaveLine.ensures)

pub slave_of-requires : goal.slave_of-requires
slave_of-requires c = (slave_taken _ _ _ (sym c.in_ok-slave_refusal-in-SlaveLine.ensures)).values

pub put_slave-requires : goal.put_slave-requires
put_slave-requires c = (slave_taken _ _ _ (sym c.in_ok-slave_refusal-in-SlaveLine.ensures)).room

pub returns-in_err-default_refusal-in-DefaultLine : goal.returns-in_err-default_refusal-in-DefaultLine
unfolding item_refusal reading_of
returns-in_err-default_refusal-in-DefaultLine c =
    let p = err_from_is_err_and c.from_residual-in_err-default_refusal-in-DefaultLine.result c.from_residual-in_err-default_refusal-in-DefaultLine.ensures.1 in
    rw (c.in-DefaultLine.is, p.1, p.2) (line_refused _ _ _ _ _ c.in_err-default_refusal-in-DefaultLine.ensures)

pub returns-in-Malformed : goal.returns-in-Malformed
unfolding item_refusal reading_of
returns-in-Malformed c = rw c.in-Malformed.is (line_refused _ _ _ _ _ refl)

pub returns-in_ok-master_refusal-in-MasterLine : goal.returns-in_ok-master_refusal-in-MasterLine
returns-in_ok-master_refusal-in-MasterLine c =
    rw c.in-MasterLine.is (master_added _ _ _ _ _ c.in_ok-master_refusal-in-MasterLine.ensures c.put_master.ensures)

pub returns-in_ok-slave_refusal-in-SlaveLine : goal.returns-in_ok-slave_refusal-in-SlaveLine
returns-in_ok-slave_refusal-in-SlaveLine c =
    rw c.in-SlaveLine.is (slave_added _ _ _ _ _ c.in_ok-slave_refusal-in-SlaveLine.ensures c.slave_of.ensures c.put_slave.ensures)

pub returns-in_ok-default_refusal-in-DefaultLine : goal.returns-in_ok-default_refusal-in-DefaultLine
returns-in_ok-default_refusal-in-DefaultLine c =
    rw c.in-DefaultLine.is (default_added _ _ _ c.in_ok-default_refusal-in-DefaultLine.ensures c.put_default.ensures)
