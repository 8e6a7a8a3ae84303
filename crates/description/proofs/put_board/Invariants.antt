-- `description::put_board` meets its contract. The loop's invariant: the lines of the first k entries are stored.
-- Assumes nothing.
use Rattle.description_lines.specs.Writer.{items_text}
use Rattle.description_check.specs.Code.Entries.{lines_to}
use Rattle.description_layout.specs.Layout.{board_in}
use Rattle.common_text.specs.Code.Scanning.{Wrote}
use Rattle.description.proofs.put_board.Given as goal

abbrev pub invariant-loop-k : goal.invariant-loop-k
invariant-loop-k l =
    Wrote l.initial.writer (items_text (lines_to (board_in l.board) l.k)) l.writer
