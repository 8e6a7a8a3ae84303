-- `wait_table::put_master_lines` meets its contract. The loop's invariant: the lines of master m at the first s slaves are stored.
-- Assumes nothing.
use Rattle.common_laws.specs.Lists.{gather}
use Rattle.common_text.specs.Code.Scanning.{Wrote}
use Rattle.description_layout.specs.Layout.{board_in}
use Rattle.wait_table.specs.Tables.{pair_line}
use Rattle.wait_table.proofs.put_master_lines.Given as goal

abbrev pub invariant-loop-s : goal.invariant-loop-s
invariant-loop-s l = Wrote l.initial.writer (gather (pair_line (board_in l.board) l.m) l.s) l.writer
