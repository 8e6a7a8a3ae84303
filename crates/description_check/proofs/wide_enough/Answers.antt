-- `description_check::wide_enough` meets its contract. At once, or by the masters one by one.
-- Assumes nothing.
use Rattle.description_check.proofs.AcceptLaws.{wide_at_once, wide_by_column}
use Rattle.description_check.proofs.wide_enough.Goals as goal

pub returns-then-slave-least : goal.returns-then-slave-least
returns-then-slave-least c = wide_at_once _ _ _ _

pub returns-else-slave-least : goal.returns-else-slave-least
returns-else-slave-least c = λ e. wide_by_column _ _ _ _ (c.column_fits.ensures e)
