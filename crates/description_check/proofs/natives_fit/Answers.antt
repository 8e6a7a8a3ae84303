-- `description_check::natives_fit` meets its contract. If no slave is native, no master is too narrow.
-- Assumes nothing.
use Rattle.description_check.proofs.AcceptLaws.{none_wide}
use Rattle.description_check.proofs.natives_fit.Goals as goal

pub returns-then-native-eq0 : goal.returns-then-native-eq0
returns-then-native-eq0 c = λ e. none_wide _ _ _ _ c.requires.natives_up_to c.if-native-eq0.true
