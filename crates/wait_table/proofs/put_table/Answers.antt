-- `wait_table::put_table` meets its contract: the heading, and the lines after it.
-- Assumes nothing.
use native.Mathlib.Omega.{arith}
use lib.ListN.{length-append}
use borrow.Author.Rules.{rules}
use Rattle.common_laws.specs.Bytes.{bytes_of}
use Rattle.common_text.proofs.Puts.{wrote_then, room_then, put_length}
use Rattle.description_layout.specs.Layout.{board_in}
use Rattle.wait_table.specs.Tables.{heading, pair_lines, table_text}
use Rattle.wait_table.proofs.put_table.Goals as goal

pub put_bytes-requires : goal.put_bytes-requires
unfolding table_text heading bytes_of
put_bytes-requires c =
    omega (arith, length-append heading (pair_lines (board_in c.args.board.now)), c.requires.board_in_bounds)

pub put_pairs-requires : goal.put_pairs-requires
unfolding table_text heading bytes_of
put_pairs-requires c =
    let e = c.put_bytes.ensures.put in
    record {
      legal = c.requires.legal;
      board_in_bounds = omega (
        arith,
        e.end,
        put_length e,
        length-append heading (pair_lines (board_in c.args.board.now)),
        c.requires.board_in_bounds,
      );
    }

pub returns : goal.returns
unfolding table_text heading bytes_of
returns c =
    let e = wrote_then c.put_bytes.ensures c.put_pairs.ensures in
    let p = e.put in
    let s = e.same in
    search (rules, p, s)
