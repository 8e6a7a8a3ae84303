-- `description_rules::refusals::total_span` meets its contract.
-- The loop's invariant: the total so far and the spans that are left make the whole; the bound keeps the sum in a u64.
-- Assumes nothing.
use mathlib.Core.Path.{ap}
use native.Mathlib.Omega.{arith}
use borrow.Author.Rules.{rules}
use Rattle.description_board.proofs.RuleLaws.{total_next, total_end}
use Rattle.description_board.specs.Records.{Slave}
use Rattle.description_layout.proofs.BoardLaws.{slaves_length}
use Rattle.description_layout.specs.Layout.{board_in}
use Rattle.description_rules.proofs.refusals.total_span.Goals as goal

pub loop-i-init : goal.loop-i-init
loop-i-init c = (search rules, search rules, omega arith)

pub loop-i-preserved : goal.loop-i-preserved
loop-i-preserved c =
    let l = c.loop-i in
    let a = c.args in
    let g = slaves_length a.board.now in
    let t = total_next (board_in a.board.now).slaves a.n l.i (omega arith) (omega arith) in
    let e = ap (λ (s : Slave). s.span) c.slave_at.ensures in
    (omega arith, omega arith, omega (arith, l.invariant.2, t, e))

pub returns : goal.returns
returns c =
    let l = c.loop-i in
    let a = c.args in
    omega (arith, l.invariant.2, total_end (board_in a.board.now).slaves a.n l.i (omega arith))
