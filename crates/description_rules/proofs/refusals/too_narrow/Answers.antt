-- `description_rules::refusals::too_narrow` meets its contract. Past the array `get_or` gives the record of zeros, which is not
-- native.
-- Assumes nothing.
use native.Mathlib.Omega.{arith}
use lib.ListN.{get_or-eq_default}
use Rattle.description_board.specs.Records.{no_slave, is_native}
use Rattle.description_board.specs.Rules.{too_narrow}
use Rattle.description_layout.proofs.BoardLaws.{slaves_length}
use Rattle.description_layout.specs.Layout.{board_in}
use Rattle.description_rules.proofs.refusals.too_narrow.Goals as goal

pub returns-then-s-lt16 : goal.returns-then-s-lt16
unfolding too_narrow is_native
returns-then-s-lt16 c = rw (c.width_or_none.ensures, c.slave_at-slave.ensures)

pub returns : goal.returns
unfolding too_narrow is_native
returns c =
    let a = c.args in
    let g = slaves_length a.board.now in
    rw (get_or-eq_default (board_in a.board.now).slaves no_slave {n = a.s} (omega arith))
