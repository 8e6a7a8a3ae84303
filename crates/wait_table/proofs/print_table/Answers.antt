-- `wait_table::print_table` meets its contract: refused for the text, refused for the room, or the table that was made aside.
-- Assumes nothing.
use mathlib.Core.Path.{◌≡◌}
use Prim.Native.Nat.{◌≤◌}
use native.Mathlib.Omega.{arith}
use lib.ListN.{length, length-take}
use borrow.Author.Rules.{rules}
use Rattle.common_numbers.specs.Refusals.{refusal_in}
use Rattle.wait_table.specs.Longest.{longest_table}
use Rattle.wait_table.proofs.PrintLaws.{promised, board_legal, table_fits}
use Rattle.wait_table.proofs.PrintLaws.{page_within, room_refused, table_printed}
use Rattle.wait_table.proofs.print_table.Goals.{After-put_table-n}
use Rattle.wait_table.proofs.print_table.Goals as goal

-- the text is not refused, and the board is what it says
none : (t : After-put_table-n) → refusal_in t.read.result ≡ 0
none t = search rules

pub put_table-n-requires : goal.put_table-n-requires
unfolding longest_table
put_table-n-requires c =
    let x = c.read.ensures in
    let z : refusal_in c.read.result ≡ 0 = search rules in
    record {
      legal = board_legal _ x.number z (x.board z);
      board_in_bounds = omega (arith, table_fits _ x.number z (x.board z));
    }

-- the page has room for the longest table, so that what is printed lies within it
room : (t : After-put_table-n) → longest_table ≤ length t.put_table-n.new.out
unfolding longest_table
room t = search rules

within : (t : After-put_table-n) → t.put_table-n.result ≤ length t.put_table-n.new.out
within t =
    let x = t.read.ensures in
    page_within _ x.number (none t) (x.board (none t)) t.put_table-n.ensures (room t)

pub returns-then-out-n : goal.returns-then-out-n
unfolding longest_table
returns-then-out-n c =
    let t = (goal.at.returns-then-out-n c).After-put_table-n in
    let x = c.read.ensures in
    let w = promised _ _ _ (omega arith)
    (room_refused _ x.number (none t) (x.board (none t)) c.put_table-n.ensures (room t) _ c.if-out-n.true) in
    record { answer = w.0; output = w.1.0; room = w.1.1 }

pub slice_bounds-page-end : goal.slice_bounds-page-end
slice_bounds-page-end c = within (goal.at.slice_bounds-page-end c).After-put_table-n

pub slice_bounds-copy_from_slice-end-3 : goal.slice_bounds-copy_from_slice-end-3
slice_bounds-copy_from_slice-end-3 c =
    omega (
      arith,
      within (goal.at.slice_bounds-copy_from_slice-end-3 c).After-put_table-n,
      length-take c.put_table-n.result c.put_table-n.new.out,
    )

pub copy_from_slice-requires : goal.copy_from_slice-requires
copy_from_slice-requires c =
    let n = c.put_table-n.result in
    omega (
      arith,
      within (goal.at.copy_from_slice-requires c).After-put_table-n,
      length-take n c.put_table-n.new.out,
      length-take n c.args.out.now,
      c.if-out-n.false,
    )

pub returns : goal.returns
unfolding longest_table
returns c =
    let t = (goal.at.returns c).After-put_table-n in
    let x = c.read.ensures in
    let w = promised _ _ _ (omega arith)
    (table_printed _ x.number (none t) (x.board (none t)) c.put_table-n.ensures (room t) _ c.if-out-n.false c.copy_from_slice.ensures.after) in
    record { answer = w.0; output = w.1.0; room = w.1.1 }
