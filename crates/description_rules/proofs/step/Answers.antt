-- `description_rules::step` meets its contract: the refusal of a line above stays.
-- Assumes nothing.
use Rattle.std.proofs.lemmas.Result.{err_from_is_err_and}
use Rattle.description_rules.proofs.ReadingLaws.{refusal_steps}
use Rattle.description_rules.proofs.step.Goals as goal

pub returns-in_err-rank : goal.returns-in_err-rank
returns-in_err-rank c =
    let p = err_from_is_err_and c.from_residual.result c.from_residual.ensures.1 in
    rw (p.1, p.2, c.in_err-rank.was) (refusal_steps _ _ _)
