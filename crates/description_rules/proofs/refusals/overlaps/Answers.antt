-- `description_rules::refusals::overlaps` meets its contract. The loop's invariant: an overlap is one with a slave that is left.
-- Assumes nothing.
use mathlib.Core.Path.{◌≡◌, ◌∙◌, sym, refl, ap}
use native.Mathlib.Omega.{arith}
use borrow.Author.Rules.{rules}
use Rattle.description_board.proofs.RuleLaws.{overlaps_here, overlaps_next, overlaps_end}
use Rattle.description_board.specs.Records.{slave_at}
use Rattle.description_board.specs.Rules.{meets}
use Rattle.description_layout.proofs.BoardLaws.{slaves_length}
use Rattle.description_layout.specs.Layout.{board_in}
use Rattle.description_rules.proofs.refusals.overlaps.Goals.{After-meets}
use Rattle.description_rules.proofs.refusals.overlaps.Goals as goal

-- what the comparison found is that of the slave of the turn
compared : (c : After-meets) → let a = c.args in
    meets a.base a.span (slave_at (board_in a.board.now) c.loop-i.i) ≡ c.meets.result
compared c =
    let a = c.args in
    ap (meets a.base a.span) (sym c.slave_at.ensures) ∙ sym c.meets.ensures

pub loop-i-init : goal.loop-i-init
loop-i-init c = (search rules, refl)

pub returns-then-meets : goal.returns-then-meets
returns-then-meets c =
    let l = c.loop-i in
    let a = c.args in
    let g = slaves_length a.board.now in
    let slaves = (board_in a.board.now).slaves in
    let met = compared (goal.at.returns-then-meets c).After-meets ∙ c.if-meets.true in
    sym (l.invariant.1 ∙ overlaps_here slaves a.n l.i (omega arith) (omega arith) a.base a.span met)

pub loop-i-preserved : goal.loop-i-preserved
loop-i-preserved c =
    let l = c.loop-i in
    let a = c.args in
    let g = slaves_length a.board.now in
    let slaves = (board_in a.board.now).slaves in
    let apart = compared (goal.at.loop-i-preserved c).After-meets ∙ c.if-meets.false in
    (omega arith, l.invariant.1 ∙ overlaps_next slaves a.n l.i (omega arith) (omega arith) a.base a.span apart)

pub returns : goal.returns
returns c =
    let l = c.loop-i in
    let a = c.args in
    sym (l.invariant.1 ∙ overlaps_end (board_in a.board.now).slaves a.n l.i (omega arith) a.base a.span)
