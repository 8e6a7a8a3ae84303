-- `description_rules::refusals::share_or_none` meets its contract. Past the end `get_or` gives 0 too.
-- Assumes nothing.
use mathlib.Core.Path.{sym}
use native.Mathlib.Omega.{arith}
use lib.ListN.{get_or-eq_default}
use Rattle.description_layout.proofs.BoardLaws.{shares_length}
use Rattle.description_layout.specs.Layout.{board_in}
use Rattle.description_rules.proofs.refusals.share_or_none.Goals as goal

pub returns-else-at-lt128 : goal.returns-else-at-lt128
returns-else-at-lt128 c =
    let a = c.args in
    let g = shares_length a.board.now in
    sym (get_or-eq_default (board_in a.board.now).shares 0 {n = a.at} (omega arith))
