-- `description_check::span_fits` meets its contract. A span with one bit set is a power of two, and the bits of base below
-- it are the remainder.
-- Assumes nothing.
use Rattle.description_check.proofs.AcceptLaws.{span_tested}
use Rattle.description_check.proofs.span_fits.Goals as goal

pub returns : goal.returns
returns c = span_tested _ _ _ _ c.saturating_sub-low.ensures c.is_power_up_to.ensures
