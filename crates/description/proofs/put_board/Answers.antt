-- `description::put_board` meets its contract. The loop's invariant: the lines of the first k entries are written.
-- Assumes nothing.
use native.Mathlib.Omega.{arith}
use borrow.Author.Rules.{rules}
use Rattle.common_laws.specs.Lists.{gather}
use Rattle.common_text.proofs.Puts.{wrote_none, put_length}
use Rattle.description_check.specs.Code.Entries.{lines_to}
use Rattle.description_layout.specs.Layout.{board_in}
use Rattle.description_lines.specs.Writer.{items_text}
use Rattle.description.proofs.BoardText.{text_all, no_line, room_next, wrote_next}
use Rattle.description.proofs.put_board.Goals.{in-Some, in_default}
use Rattle.description.proofs.put_board.Goals as goal

pub loop-k-init : goal.loop-k-init
unfolding lines_to gather items_text
loop-k-init c = wrote_none _

pub put_item-requires : goal.put_item-requires
put_item-requires c =
    let l = c.loop-k in
    let e = l.invariant.put in
    let room = room_next (board_in c.args.board.now) l.k c.in-Some.ensures (omega (arith, c.entry_count-n.ensures)) in
    omega (arith, e.end, put_length e, c.requires)

pub loop-k-preserved : goal.loop-k-preserved
loop-k-preserved c =
    let l = c.loop-k in
    let b = board_in c.args.board.now in
    elim c.match-line_at.branch [
      | in-Some w ↦ rw (w.writer-is) (wrote_next b l.k w.in-Some.ensures l.invariant w.put_item.ensures)
      | in_default w ↦
          rw (w.writer-is, no_line b l.k c.line_at.result c.line_at.ensures w.in_default.not-Some) l.invariant
    ]

pub returns : goal.returns
returns c =
    let l = c.loop-k in
    let p = rw (text_all (board_in c.args.board.now) l.k (omega (arith, c.entry_count-n.ensures))) at l.invariant.put in
    let s = l.invariant.same in
    search (rules, p, s)
