-- `description_check::slave_fits` meets its contract. The base is in its range by its type.
-- Assumes nothing.
use mathlib.Core.Path.{◌∙◌}
use native.Mathlib.Omega.{arith}
use Rattle.description_check.proofs.AcceptLaws.{width_is, burst_is, slave_passed}
use Rattle.description_check.proofs.slave_fits.Goals as goal

pub returns : goal.returns
returns c =
    slave_passed c.args.s _ _ _ (omega arith) c.span_fits.ensures (c.is_power_up_to.ensures ∙ width_is _)
    (c.is_power_up_to-2.ensures ∙ burst_is _)
