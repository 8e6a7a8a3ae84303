-- `description_rules::refusals::without_share` meets its contract.
-- The loop's invariant: the answer is the first master from m on that has no share line.
-- Assumes nothing.
use mathlib.Core.Bool.{not}
use mathlib.Core.Path.{◌≡◌, ap, sym, ◌∙◌}
use Prim.Native.Nat.{◌<◌}
use native.Mathlib.Nat.{sub-zero}
use native.Mathlib.Omega.{arith}
use Rattle.common_laws.specs.Lists.{first}
use Rattle.common_laws.proofs.TableLaws.{first_here, first_later, first_none}
use Rattle.description_board.specs.Rules.{without_share}
use Rattle.description_layout.specs.Layout.{board_in}
use Rattle.description_rules.proofs.refusals.without_share.Goals.{In-loop-m}
use Rattle.description_rules.proofs.refusals.without_share.Goals as goal

-- the master of a turn is one of the board
there : (c : In-loop-m)
    → c.loop-m.m < (board_in c.args.board.now).master_count
there c = omega (arith, c.loop-m-test.true, c.master_count-masters.ensures)

pub loop-m-init : goal.loop-m-init
unfolding without_share first
loop-m-init c = (omega arith, rw sub-zero)

pub returns-then-not-has_share : goal.returns-then-not-has_share
returns-then-not-has_share c =
    sym (c.loop-m.invariant.1 ∙ first_here _ _ _ (there (goal.at.returns-then-not-has_share c).In-loop-m) (ap not (sym c.has_share.ensures ∙ c.if-not-has_share.true)))

pub loop-m-smaller : goal.loop-m-smaller
loop-m-smaller c = omega (arith, there (goal.at.loop-m-smaller c).In-loop-m)

pub loop-m-preserved : goal.loop-m-preserved
loop-m-preserved c = (
  omega (arith, there (goal.at.loop-m-preserved c).In-loop-m),
  c.loop-m.invariant.1 ∙ first_later _ _ _ (there (goal.at.loop-m-preserved c).In-loop-m) (ap not (sym c.has_share.ensures ∙ c.if-not-has_share.false)),
)

pub returns : goal.returns
returns c =
    let l = c.loop-m in
    let n = c.master_count-masters.ensures in
    let e : l.m ≡ (board_in c.args.board.now).master_count =
    omega (arith, n, c.loop-m-test.false, l.invariant.0) in
    n ∙ sym e ∙ sym (l.invariant.1 ∙ first_none _ _ _ (omega (arith, e)))
