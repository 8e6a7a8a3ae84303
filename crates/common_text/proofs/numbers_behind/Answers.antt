-- `common_text::numbers_behind` meets its contract: after a separator the part that is lent, at the line's end no field.
-- Assumes nothing.
use mathlib.Core.Path.{ap, sym, ◌∙◌}
use Rattle.common_text.specs.Fields.{comma, numbers_of}
use Rattle.common_text.proofs.Pieces.{behind_part, behind_last}
use Rattle.common_text.proofs.Values.{numbers_none}
use Rattle.common_text.proofs.numbers_behind.Goals as goal

pub returns-then-position-line : goal.returns-then-position-line
returns-then-position-line c =
    let a = c.args in
    c.numbers_of.ensures ∙ ap numbers_of (sym (behind_part comma a.line.now a.position c.if-position-line.true))

pub returns-else-position-line : goal.returns-else-position-line
returns-else-position-line c =
    let a = c.args in
    c.no_numbers.ensures
    ∙ sym (ap numbers_of (behind_last comma a.line.now a.position c.if-position-line.false) ∙ numbers_none)
