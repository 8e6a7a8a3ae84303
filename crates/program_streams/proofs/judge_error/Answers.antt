-- `program_streams::judge_error` meets its contract. Each test of the error's number is one of the tests that `judged_error` makes.
-- Assumes nothing.
use Rattle.program_streams.proofs.CallLaws.{told_again, told_later, told_failed}
use Rattle.program_streams.proofs.judge_error.Goals as goal

pub returns-then-number-eq-EINTR : goal.returns-then-number-eq-EINTR
returns-then-number-eq-EINTR c =
    told_again _ _ c.number_of-number.ensures c.number_of-number.type_inv c.if-number-eq-EINTR.true

pub returns-then-number-eq-EAGAIN : goal.returns-then-number-eq-EAGAIN
returns-then-number-eq-EAGAIN c =
    told_later _ _ c.number_of-number.ensures c.number_of-number.type_inv c.if-number-eq-EINTR.false c.if-number-eq-EAGAIN.true

pub returns : goal.returns
returns c =
    told_failed _ _ c.number_of-number.ensures c.number_of-number.type_inv c.if-number-eq-EINTR.false c.if-number-eq-EAGAIN.false
