-- `description_rules::Progress::finish` meets its contract: another number than 0 stays.
-- Assumes nothing.
use Rattle.description_rules.proofs.ProgressLaws.{passed_finishes, stopped_finishes}
use Rattle.description_rules.proofs.Progress.finish.Goals as goal

pub returns-then-self-ne-TAKEN : goal.returns-then-self-ne-TAKEN
returns-then-self-ne-TAKEN c = stopped_finishes _ _ c.if-self-ne-TAKEN.true

pub returns : goal.returns
returns c = passed_finishes _ _ _ c.if-self-ne-TAKEN.false _ _ c.finish.ensures (c.told.ensures _)
