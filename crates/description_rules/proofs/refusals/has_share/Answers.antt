-- `description_rules::refusals::has_share` meets its contract. The loop's invariant: no slave passed is connected.
-- Assumes nothing.
use Rattle.std.proofs.Common.{◌≡◌, arith}
use Rattle.description_board.specs.Records.{shares_at}
use Rattle.description_board.proofs.EndLaws.{share_found, share_next, share_none}
use Rattle.description_layout.specs.Layout.{board_in}
use Rattle.description_rules.proofs.refusals.has_share.Goals.{After-share_or_none-x}
use Rattle.description_rules.proofs.refusals.has_share.Goals as goal

-- the number looked at is that of the slave of the turn
looked : (c : After-share_or_none-x) → c.share_or_none-x.result ≡ shares_at (board_in c.args.board.now) c.args.m c.loop-s.s
looked c = rw (← c.from.ensures, ← c.from-in-loop-s.ensures) c.share_or_none-x.ensures

pub returns-then-s-slaves : goal.returns-then-s-slaves
returns-then-s-slaves c =
    share_found _ _ _ _ _ c.slave_count-slaves.ensures (looked (goal.at.returns-then-s-slaves c).After-share_or_none-x) (omega arith)
    c.if-s-slaves.true

pub loop-s-preserved : goal.loop-s-preserved
loop-s-preserved c =
    share_next _ _ _ _ _ c.slave_count-slaves.ensures (looked (goal.at.loop-s-preserved c).After-share_or_none-x) c.if-s-slaves.false
    c.loop-s.invariant

pub returns : goal.returns
returns c = share_none _ _ _ (omega arith) c.loop-s.invariant
