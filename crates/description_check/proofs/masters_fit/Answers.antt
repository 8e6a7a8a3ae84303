-- `description_check::masters_fit` meets its contract. One master more.
-- Assumes nothing.
use mathlib.Core.Path.{◌∙◌, ap}
use mathlib.Core.Bool.{not}
use Rattle.description_check.proofs.AcceptLaws.{width_is, burst_is, master_next}
use Rattle.description_check.proofs.masters_fit.Goals as goal

pub loop-i-preserved : goal.loop-i-preserved
loop-i-preserved c =
    master_next _ _ _ _ _ c.master_at-m.ensures (c.is_power_up_to.ensures ∙ width_is _) (c.is_power_up_to-in-loop-i.ensures ∙ burst_is _)
    (ap not c.if-not-is_power_up_to.false) c.loop-i.invariant
