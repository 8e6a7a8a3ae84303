-- `fabric::reset` meets its contract: refused, or an accepted board, which has a master.
-- Assumes nothing.
use mathlib.Core.Path.{sym}
use native.Mathlib.Omega.{arith}
use Rattle.std.proofs.lemmas.Result.{err_from_is_err_and}
use Rattle.common_numbers.proofs.RefusalLaws.{refusal_not_zero}
use Rattle.description_board.proofs.Accepted.{accepted_legal}
use Rattle.fabric_calls.proofs.ResetLaws.{reset_refused}
use Rattle.fabric.proofs.reset.Goals as goal

pub returns-in_err-board_refusal : goal.returns-in_err-board_refusal
returns-in_err-board_refusal c =
    let p = err_from_is_err_and c.from_residual.result c.from_residual.ensures.1 in
    rw (p.1, p.2) (reset_refused _ _ c.in_err-board_refusal.ensures (refusal_not_zero _))

pub overflow_sub-owner : goal.overflow_sub-owner
overflow_sub-owner c =
    omega (arith, c.master_count-owner.ensures, (accepted_legal _ (sym c.in_ok-board_refusal.ensures)).some_master)
