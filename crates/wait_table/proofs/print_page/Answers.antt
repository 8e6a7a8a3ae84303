-- `wait_table::print_page` meets its contract: the table, or the refusal's line on the page that was left as it was.
-- Assumes nothing.
use mathlib.Core.Path.{refl}
use lib.Dec.{lit≤}
use borrow.Author.Rules.{rules}
use Rattle.common_laws.specs.Bytes.{bytes_of}
use Rattle.common_numbers.proofs.RefusalLaws.{refusal_not_zero}
use Rattle.wait_table.specs.Longest.{longest_table}
use Rattle.wait_table.proofs.PrintLaws.{page_table, line_room_lem, page_refused}
use Rattle.wait_table.proofs.print_page.Goals as goal

pub returns-in-Ok : goal.returns-in-Ok
unfolding longest_table
returns-in-Ok c =
    let e = c.in-Ok.ensures in
    let w = page_table _ _ _ (e.answer, (e.output, e.room)) (lit≤ tt) (search rules) refl in
    record { answer = w.0; output = w.1 }

pub put_line-requires : goal.put_line-requires
unfolding longest_table
put_line-requires c =
    let e = c.in-Err.ensures in
    rw (c.from.ensures, c.number.ensures)
    (line_room_lem _ _ _ (e.answer, (e.output, e.room)) (lit≤ tt) (search rules) (refusal_not_zero _) _ (lit≤ tt))

pub returns-in-Err : goal.returns-in-Err
unfolding bytes_of longest_table
returns-in-Err c =
    let e = c.in-Err.ensures in
    let s = c.put_line.ensures.same in
    let w = page_refused _ _ _ (e.answer, (e.output, e.room)) (lit≤ tt) (search rules) (refusal_not_zero _)
    (rw (c.from.ensures, c.number.ensures) at c.put_line.ensures.put) in
    let after = w.1 in
    record { answer = w.0; output = search (rules, after, s) }
