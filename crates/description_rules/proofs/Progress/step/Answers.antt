-- `description_rules::Progress::step` meets its contract: another number than 0 stays.
-- Assumes nothing.
use Rattle.description_rules.proofs.ProgressLaws.{passed_steps, stopped_steps}
use Rattle.description_rules.proofs.Progress.step.Goals as goal

pub returns-then-self-eq-TAKEN : goal.returns-then-self-eq-TAKEN
returns-then-self-eq-TAKEN c =
    passed_steps _ _ _ c.if-self-eq-TAKEN.true _ _ _ c.step.ensures (c.told.ensures _)

pub returns-else-self-eq-TAKEN : goal.returns-else-self-eq-TAKEN
returns-else-self-eq-TAKEN c = stopped_steps _ _ c.if-self-eq-TAKEN.false _
