-- `fabric_layout::reset_state` meets its contract.
-- The loop's invariant: no transfer is held, no latency clocks are to pass, the log is empty, and the first s slots are those of a
-- reset.
-- Assumes nothing.
use mathlib.Core.Path.{◌∙◌}
use native.Mathlib.Omega.{arith}
use borrow.Author.Rules.{rules}
use Rattle.common_laws.proofs.FillLaws.{filled_next, filled_all}
use Rattle.fabric_layout.proofs.StatePutLaws.{slots_begin, slots_put, transfers_left, lates_left, log_left, reset_end}
use Rattle.fabric_layout.proofs.StatePutLaws.{log_put, transfers_logged, lates_logged}
use Rattle.fabric_layout.proofs.NumbersLaws.{reset_spelled}
use Rattle.fabric_layout.proofs.reset_state.Goals as goal

pub loop-s-init : goal.loop-s-init
loop-s-init c =
    let e = c.clear_masters.ensures in
    let g = c.clear_log.ensures in (
      transfers_logged _ _ _ g ∙ e.0,
      lates_logged _ _ _ g ∙ e.1,
      log_put _ _ _ g,
      slots_begin _ _,
      search rules,
    )

pub loop-s-preserved : goal.loop-s-preserved
loop-s-preserved c =
    let i = c.loop-s.invariant in
    let e = c.put_slot.ensures.state in (
      transfers_left _ _ _ _ e ∙ i.0,
      lates_left _ _ _ _ e ∙ i.1,
      log_left _ _ _ _ e ∙ i.2,
      slots_put _ _ _ _ e ∙ filled_next _ _ 16 _ i.3 c.reset_slot.ensures,
      search rules,
    )

pub returns : goal.returns
returns c =
    let i = c.loop-s.invariant in
    reset_spelled _ _ _ (reset_end _ _ _ i.0 (filled_all _ _ 16 _ (omega arith) i.3) i.1 i.2) i.4
