-- `description_check::master_item` meets its contract. Past the array `get_or` gives the record of zeros too.
-- Assumes nothing.
use native.Mathlib.Omega.{arith}
use lib.ListN.{get_or-eq_default}
use Rattle.description_board.specs.Records.{no_master}
use Rattle.description_board.specs.Items.{master_item}
use Rattle.description_layout.proofs.BoardLaws.{masters_length}
use Rattle.description_layout.specs.Layout.{board_in}
use Rattle.description_check.proofs.master_item.Goals.{then-i-lt8, else-i-lt8}
use Rattle.description_check.proofs.master_item.Goals as goal

pub returns : goal.returns
unfolding master_item
returns c =
    let a = c.args in
    let g = masters_length a.board.now in
    elim c.if-i-lt8.branch [
      | then-i-lt8 w ↦ rw (c.from.ensures, c.from-2.ensures, w.m-is, w.master_at-m.ensures)
      | else-i-lt8 w ↦
          let d = w.default-m.ensures in
          rw (
            c.from.ensures,
            c.from-2.ensures,
            w.m-is,
            get_or-eq_default (board_in a.board.now).masters no_master {n = a.i} (omega arith),
          ) (cc)
    ]
