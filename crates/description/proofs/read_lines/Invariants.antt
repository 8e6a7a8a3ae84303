-- `description::read_lines` meets its contract. The loop's invariant: the lines before `at` are read and counted, none refused.
-- The measure is what is left of the text.
-- Assumes nothing.
use Rattle.std.proofs.Common.{◌-◌, length, Ok}
use Rattle.description.proofs.BlameLaws.{Counted}
use Rattle.description_rules.specs.Code.Readings.{reading_of}
use Rattle.description.proofs.read_lines.Given as goal

abbrev pub invariant-loop-at : goal.invariant-loop-at
invariant-loop-at l =
    Counted l.text (reading_of (Ok l.above) l.board) l.line l.at

abbrev pub decreases-loop-at : goal.decreases-loop-at
decreases-loop-at l =
    length l.text - l.at
