-- `description::board_length` meets its contract.
-- The loop's invariant: the sum is the length of the lines of the first k entries.
-- An accepted board has at most 153 entries, so that no sum wraps.
-- Assumes nothing.
use mathlib.Core.Path.{◌≡◌}
use lib.ListN.{length}
use Rattle.description_lines.specs.Writer.{items_text}
use Rattle.description_check.specs.Code.Entries.{lines_to}
use Rattle.description_layout.specs.Layout.{board_in}
use Rattle.description.proofs.board_length.Given as goal

abbrev pub invariant-loop-k : goal.invariant-loop-k
invariant-loop-k l =
    l.sum ≡ length (items_text (lines_to (board_in l.board) l.k))
