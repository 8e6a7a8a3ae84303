-- `fabric::run` meets its contract.
-- The loop's invariant: where the run of clocks stands between two of them (`Passing`), responses of 0, and the lengths of
-- the lent bytes.
-- Assumes nothing.
use mathlib.Core.Path.{◌≡◌, refl, sym, ◌∙◌}
use native.Mathlib.Omega.{arith}
use borrow.Author.Rules.{rules}
use Rattle.std.proofs.lemmas.Result.{err_from_is_err_and}
use Rattle.common_numbers.proofs.RefusalLaws.{refusal_not_zero}
use Rattle.description_layout.specs.Layout.{board_in}
use Rattle.fabric_layout.specs.Layout.{state_in}
use Rattle.fabric_layout.proofs.StatePutLaws.{first_none}
use Rattle.fabric_layout.proofs.LogPutLaws.{responses_none}
use Rattle.fabric_calls.specs.Calls.{clock_refusal}
use Rattle.fabric.proofs.PassingLaws.{run_refused, passing_begin, passing_accepts, passing_lengths}
use Rattle.fabric.proofs.PassingLaws.{passing_spent, passing_next, passing_finished}
use Rattle.fabric.proofs.run.Goals.{In_ok-unmapped}
use Rattle.fabric.proofs.run.Goals as goal

pub returns-in_err-unmapped : goal.returns-in_err-unmapped
returns-in_err-unmapped c =
    let p = err_from_is_err_and c.from_residual.result c.from_residual.ensures.1 in
    let e = rw c.in_err-unmapped.was at c.begin-begun.ensures.number in
    rw (p.1, p.2)
    (run_refused _ _ _ _ _ _ e (refusal_not_zero _) (c.put_responses.ensures ∙ responses_none)
    (c.first_lines.ensures ∙ first_none _))

-- nothing is refused
taken : (c : In_ok-unmapped)
    → clock_refusal (board_in c.args.board.now) (state_in (c.args.state.now)) (record { memory = c.args.memory.now; buffer = c.args.buffer.now }) ≡ 0
taken c = sym (rw c.in_ok-unmapped.was at c.begin-begun.ensures.number)

pub loop-passed-init : goal.loop-passed-init
loop-passed-init c =
    let x = rw c.in_ok-unmapped.was at c.begin-begun.ensures in
    let z = taken c in (
      z,
      passing_begin _ _ _ _ z _ _ (x.holders refl) (x.unmapped refl)
          (c.first_lines.ensures ∙ first_none _),
      c.put_responses.ensures ∙ responses_none,
      refl,
      refl,
    )

pub cycle-mask-requires : goal.cycle-mask-requires
cycle-mask-requires c =
    let i = c.loop-passed.invariant in
    let n = passing_lengths _ _ _ _ i.0 i.1 in
    (passing_accepts _ _ _ _ i.0 i.1, i.1.asked, i.1.held, n.0, n.1)

pub returns-then-mask-ne0 : goal.returns-then-mask-ne0
returns-then-mask-ne0 c =
    let i = c.loop-passed.invariant in
    passing_finished _ _ _ _ i.0 i.1 c.loop-passed-test.true _ _ c.cycle-mask.ensures c.if-mask-ne0.true
    c.put_responses-then-mask-ne0.ensures

pub loop-passed-preserved : goal.loop-passed-preserved
loop-passed-preserved c =
    let i = c.loop-passed.invariant in (
      i.0,
      passing_next _ _ _ _ i.0 i.1 c.loop-passed-test.true _ _ c.cycle-mask.ensures c.if-mask-ne0.false,
      i.2,
      search rules,
      search rules,
    )

pub returns : goal.returns
returns c =
    let i = c.loop-passed.invariant in
    passing_spent _ _ _ _ i.0 i.1 (omega (arith, c.loop-passed-test.false, c.loop-passed.auto.passed-end)) i.2
