-- `description::board_length` meets its contract. The loop's invariant: the sum is the length of the lines of the first k entries.
-- An accepted board has at most 153 entries, so that no sum wraps.
-- Assumes nothing.
use mathlib.Core.Path.{refl, ap, ◌∙◌}
use native.Mathlib.Omega.{arith}
use lib.ListN.{length}
use Rattle.common_laws.specs.Lists.{gather}
use Rattle.description_check.specs.Code.Entries.{lines_to}
use Rattle.description_layout.specs.Layout.{board_in}
use Rattle.description_lines.proofs.WriteLaws.{item_fits}
use Rattle.description_lines.specs.Writer.{items_text}
use Rattle.description.proofs.BoardText.{text_all, no_line, length_next, lines_fit, few_places}
use Rattle.description.proofs.board_length.Goals.{in-Some, in_default}
use Rattle.description.proofs.board_length.Goals as goal

pub loop-k-init : goal.loop-k-init
unfolding lines_to gather items_text
loop-k-init c = refl

pub overflow_add-sum : goal.overflow_add-sum
overflow_add-sum c =
    let l = c.loop-k in
    let b = board_in c.args.board.now in
    omega (
      arith,
      lines_fit b l.k,
      item_fits c.in-Some.item,
      c.entry_count-n.ensures,
      few_places b c.requires,
    )

pub loop-k-preserved : goal.loop-k-preserved
loop-k-preserved c =
    let l = c.loop-k in
    let b = board_in c.args.board.now in
    elim c.match-line_at.branch [
      | in-Some w ↦ omega (arith, length_next b l.k w.in-Some.ensures)
      | in_default w ↦ omega (arith, ap length (no_line b l.k c.line_at.result c.line_at.ensures w.in_default.not-Some))
    ]

pub returns : goal.returns
returns c =
    let l = c.loop-k in
    l.invariant ∙ ap length (text_all (board_in c.args.board.now) l.k (omega (arith, c.entry_count-n.ensures)))
