-- `description_check::slave_item` meets its contract. Past the array `get_or` gives the record of zeros too.
-- Assumes nothing.
use native.Mathlib.Omega.{arith}
use lib.ListN.{get_or-eq_default}
use Rattle.description_board.specs.Records.{no_slave}
use Rattle.description_board.specs.Items.{slave_item}
use Rattle.description_layout.proofs.BoardLaws.{slaves_length}
use Rattle.description_layout.specs.Layout.{board_in}
use Rattle.description_check.proofs.slave_item.Goals.{then-i-lt16, else-i-lt16}
use Rattle.description_check.proofs.slave_item.Goals as goal

pub returns : goal.returns
unfolding slave_item
returns c =
    let a = c.args in
    let g = slaves_length a.board.now in
    elim c.if-i-lt16.branch [
      | then-i-lt16 w ↦ rw (c.from.ensures, w.s-is, w.slave_at-s.ensures)
      | else-i-lt16 w ↦
          rw (c.from.ensures, w.s-is, get_or-eq_default (board_in a.board.now).slaves no_slave {n = a.i} (omega arith))
    ]
