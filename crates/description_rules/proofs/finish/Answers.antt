-- `description_rules::finish` meets its contract.
-- Assumes nothing.
use Rattle.std.proofs.lemmas.Result.{err_from_is_err_and}
use Rattle.description_rules.proofs.ReadingLaws.{end_refused, end_passed, refusal_finishes}
use Rattle.description_rules.proofs.finish.Goals as goal

pub returns-in_err-rank : goal.returns-in_err-rank
returns-in_err-rank c =
    let p = err_from_is_err_and c.from_residual.result c.from_residual.ensures.1 in
    rw (p.1, p.2, c.in_err-rank.was) (refusal_finishes _ _)

pub returns-in-Ok : goal.returns-in-Ok
returns-in-Ok c = rw (c.in_ok-rank.was) (end_passed _ _ (c.in-Ok.ensures))

pub returns-in-Err : goal.returns-in-Err
returns-in-Err c = rw (c.in_ok-rank.was) (end_refused _ _ _ _ c.in-Err.ensures c.clear.ensures)
