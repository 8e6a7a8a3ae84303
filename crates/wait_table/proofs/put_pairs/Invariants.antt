-- `wait_table::put_pairs` meets its contract. The loop's invariant: the lines of the first m masters are stored.
-- Assumes nothing.
use Rattle.common_laws.specs.Lists.{gather}
use Rattle.common_text.specs.Code.Scanning.{Wrote}
use Rattle.description_layout.specs.Layout.{board_in}
use Rattle.wait_table.specs.Code.PairLines.{master_lines}
use Rattle.wait_table.proofs.put_pairs.Given as goal

abbrev pub invariant-loop-m : goal.invariant-loop-m
invariant-loop-m l = Wrote l.initial.writer (gather (master_lines (board_in l.board)) l.m) l.writer
