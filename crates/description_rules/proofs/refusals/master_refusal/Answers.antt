-- `description_rules::refusals::master_refusal` meets its contract. Each way out answers the definition's tests in their order.
-- Assumes nothing.
use Rattle.std.proofs.Common.{◌≡◌, cond, not, ◌&&◌}
use Rattle.description_board.specs.Rules.{widths, bursts, master_refusal}
use Rattle.description_layout.specs.Layout.{board_in}
use Rattle.description_rules.proofs.Contained.{listed}
use Rattle.description_rules.proofs.refusals.master_refusal.Goals.{After-contains-2}
use Rattle.description_rules.proofs.refusals.master_refusal.Goals as goal

-- the definition after the first test, by what the tests of the values answered
tested : (c : After-contains-2) → let a = c.args in
    master_refusal (board_in a.board.now) a.width a.burst
    ≡ cond (not (c.contains.result && c.contains-2.result)) 3 0
unfolding master_refusal
tested c =
    rw (
      ← c.master_count-masters.ensures,
      ← c.slave_count-slaves.ensures,
      c.if-slaves-masters.false,
      ← listed c.args.width widths c.contains.ensures.value,
      ← listed c.args.burst bursts c.contains-2.ensures.value,
    )

pub returns-then-slaves-masters : goal.returns-then-slaves-masters
unfolding master_refusal
returns-then-slaves-masters c =
    rw (← c.master_count-masters.ensures, ← c.slave_count-slaves.ensures, c.if-slaves-masters.true)

pub returns-then-not-contains : goal.returns-then-not-contains
returns-then-not-contains c = rw (tested (goal.at.returns-then-not-contains c).After-contains-2, c.if-not-contains.true)

pub returns : goal.returns
returns c = rw (tested (goal.at.returns c).After-contains-2, c.if-not-contains.false)
