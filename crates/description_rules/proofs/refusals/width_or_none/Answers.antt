-- `description_rules::refusals::width_or_none` meets its contract. Past the array `get_or` gives the record of zeros too.
-- Assumes nothing.
use native.Mathlib.Omega.{arith}
use lib.ListN.{get_or-eq_default}
use Rattle.description_board.specs.Records.{no_master}
use Rattle.description_layout.proofs.BoardLaws.{masters_length}
use Rattle.description_layout.specs.Layout.{board_in}
use Rattle.description_rules.proofs.refusals.width_or_none.Goals as goal

pub returns-else-m-lt8 : goal.returns-else-m-lt8
returns-else-m-lt8 c =
    let a = c.args in
    let g = masters_length a.board.now in
    rw (get_or-eq_default (board_in a.board.now).masters no_master {n = a.m} (omega arith))
