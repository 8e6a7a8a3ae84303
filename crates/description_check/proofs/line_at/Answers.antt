-- `description_check::line_at` meets its contract. Part by part of the lines.
-- Assumes nothing.
use mathlib.Core.Path.{ap, sym, ◌∙◌}
use Rattle.std.specs.Prelude.{Some}
use native.Mathlib.Omega.{arith}
use Rattle.description_check.proofs.EntryLaws.{at_master, slave_line_lem, pair_line, last_line}
use Rattle.description_layout.specs.Layout.{board_in}
use Rattle.description_check.proofs.line_at.Goals as goal

pub returns-then-k-m : goal.returns-then-k-m
returns-then-k-m c =
    let a = c.args in
    let m = c.master_count-m.ensures in
    ap Some c.master_item.ensures ∙ sym (at_master (board_in a.board.now) a.k (omega (arith, m)))

pub returns-then-k-n : goal.returns-then-k-n
returns-then-k-n c =
    slave_line_lem _ _ _ _ c.master_count-m.ensures
    c.slave_count-s.ensures (omega arith) (omega arith) (ap Some c.slave_item.ensures)

pub returns-then-k-n-2 : goal.returns-then-k-n-2
returns-then-k-n-2 c =
    pair_line _ _ _ _ c.master_count-m.ensures c.slave_count-s.ensures (omega arith) (omega arith)
    c.pair_item.ensures

pub returns : goal.returns
returns c =
    last_line _ _ _ _ c.master_count-m.ensures c.slave_count-s.ensures (omega arith) c.last_item.ensures
