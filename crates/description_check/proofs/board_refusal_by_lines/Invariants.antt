-- `description_check::board_refusal_by_lines` meets its contract.
-- The loop's invariant: above and own are the reading of the lines of the first k entries.
-- Assumes nothing.
use Rattle.std.proofs.Common.{◌≡◌, Ok}
use Rattle.description_board.specs.Rules.{start, step_all}
use Rattle.description_check.specs.Code.Entries.{lines_to}
use Rattle.description_layout.specs.Layout.{board_in}
use Rattle.description_rules.specs.Code.Readings.{reading_of}
use Rattle.description_check.proofs.board_refusal_by_lines.Given as goal

abbrev pub invariant-loop-k : goal.invariant-loop-k
invariant-loop-k l = reading_of (Ok l.above) l.own ≡ step_all start (lines_to (board_in l.board) l.k)
