use Rattle.std.proofs.Common.{rules, sym, ◌∙◌}
use Rattle.program_streams.specs.Calls.{judged}
use Rattle.program_streams.proofs.CallLaws.{told_nothing, told_bytes}
use Rattle.program_streams.proofs.judge.Goals as goal

pub returns-in-Ok-eq0 : goal.returns-in-Ok-eq0
returns-in-Ok-eq0 c = told_nothing _ _ c.in-Ok-eq0.is (sym c.in-Ok-eq0.field-0-is ∙ c.in-Ok-eq0.field-0-test)

pub returns-in-Ok : goal.returns-in-Ok
returns-in-Ok c = told_bytes _ _ c.in-Ok.is (search rules)

pub returns-in-Err : goal.returns-in-Err
unfolding judged
returns-in-Err c = rw c.in-Err.is c.judge_error.ensures
