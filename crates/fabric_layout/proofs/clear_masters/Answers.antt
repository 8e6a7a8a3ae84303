-- `fabric_layout::clear_masters` meets its contract. The loop's invariant: the first m transfers are none, with no latency clocks.
-- Assumes nothing.
use mathlib.Core.Path.{refl, ◌∙◌}
use native.Mathlib.Omega.{arith}
use Rattle.common_laws.proofs.FillLaws.{filled_next, filled_all}
use Rattle.fabric_layout.proofs.StatePutLaws.{transfers_begin, transfers_put, transfers_late, idle_all}
use Rattle.fabric_layout.proofs.StatePutLaws.{lates_begin, lates_put, lates_held, none_late}
use Rattle.fabric_layout.proofs.clear_masters.Goals as goal

pub loop-m-init : goal.loop-m-init
loop-m-init c = (transfers_begin _ _, lates_begin _ _)

pub loop-m-preserved : goal.loop-m-preserved
loop-m-preserved c =
    let t = c.put_transfer.ensures.state in
    let i = c.loop-m.invariant in (
      transfers_late _ _ _ _ c.put_late.ensures.state ∙ transfers_put _ _ _ _ t ∙ filled_next _ _ 8 _ i.0 refl,
      lates_put _ _ _ _ c.put_late.ensures.state ∙ filled_next _ _ 8 _ (lates_held _ _ _ _ t ∙ i.1) refl,
    )

pub returns : goal.returns
returns c =
    let i = c.loop-m.invariant in
    (idle_all (filled_all _ _ 8 _ (omega arith) i.0), none_late (filled_all _ _ 8 _ (omega arith) i.1))
