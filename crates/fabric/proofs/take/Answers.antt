-- `fabric::take` meets its contract: refused, with the state as it was, or the oldest entry taken out.
-- Assumes nothing.
use mathlib.Core.Path.{refl, sym, ap}
use Rattle.std.proofs.lemmas.Result.{err_from_is_err_and}
use Rattle.common_numbers.proofs.RefusalLaws.{refusal_not_zero}
use Rattle.fabric_state.specs.declared.Entry.{Entry}
use Rattle.fabric_calls.specs.Calls.{taken_of}
use Rattle.fabric_calls.proofs.TakeLaws.{take_some, takes_refused, takes_taken}
use Rattle.fabric.proofs.take.Goals as goal

pub returns-in_err-take_refusal : goal.returns-in_err-take_refusal
returns-in_err-take_refusal c =
    let p = err_from_is_err_and c.from_residual.result c.from_residual.ensures.1 in
    rw (p.1, p.2) (takes_refused _ _ c.in_err-take_refusal.ensures (refusal_not_zero _) refl)

pub remove_oldest-requires : goal.remove_oldest-requires
remove_oldest-requires c = take_some _ _ (sym c.in_ok-take_refusal.ensures)

pub returns : goal.returns
returns c =
    takes_taken _ _ (sym c.in_ok-take_refusal.ensures)
    (ap (λ (x : Entry). taken_of 0 x) c.entry_at-oldest.ensures) c.remove_oldest.ensures
