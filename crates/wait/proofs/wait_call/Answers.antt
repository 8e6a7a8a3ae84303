-- `wait::wait_call` meets its contract: each way out is a law of `LookUpLaws`.
-- Assumes nothing.
use mathlib.Core.Path.{refl}
use Rattle.std.proofs.lemmas.Result.{err_from_is_err_and}
use Rattle.common_numbers.specs.declared.Refusal.TheVariants.{ShortOutput}
use Rattle.description.proofs.Trip.{read_legal}
use Rattle.wait.proofs.LookUpLaws.{pair_of, output_kept, wait_text, wait_short, wait_pair, wait_taken}
use Rattle.wait.proofs.wait_call.Goals as goal

pub returns-in_err-read : goal.returns-in_err-read
returns-in_err-read c =
    let p = err_from_is_err_and c.from_residual.result c.from_residual.ensures.1 in
    let w = wait_text _ _ _ _ _ c.in_err-read.ensures.number in
    record { value = rw (p.1, p.2) w; out_after = output_kept _ _ _ _ _ w }

pub returns-then-out-lt16 : goal.returns-then-out-lt16
returns-then-out-lt16 c =
    let w = wait_short _ _ _ _ c.in_ok-read.ensures.number c.if-out-lt16.true in
    record { value = w; out_after = output_kept _ _ _ _ ShortOutput w }

pub pair_refusal-requires : goal.pair_refusal-requires
pair_refusal-requires c =
    let x = c.in_ok-read.ensures in
    read_legal _ x.number refl (x.board refl)

pub returns-in_err-pair_refusal : goal.returns-in_err-pair_refusal
returns-in_err-pair_refusal c =
    let p = err_from_is_err_and c.from_residual-in_err-pair_refusal.result c.from_residual-in_err-pair_refusal.ensures.1 in
    let x = c.in_ok-read.ensures in
    let w = wait_pair _ _ _ _ x.number (x.board refl) c.if-out-lt16.false c.in_err-pair_refusal.ensures in
    record { value = rw (p.1, p.2) w; out_after = output_kept _ _ _ _ _ w }

pub figures_of-q-requires : goal.figures_of-q-requires
figures_of-q-requires c =
    let x = c.in_ok-read.ensures in
    pair_of _ _ _ (read_legal _ x.number refl (x.board refl)) c.in_ok-pair_refusal.ensures

pub returns : goal.returns
returns c =
    let x = c.in_ok-read.ensures in
    let board = x.board refl in
    let f = c.in_ok-pair_refusal.ensures in
    let room = c.if-out-lt16.false in
    record {
      value = wait_pair _ _ _ _ x.number board room f;
      out_after = wait_taken _ _ _ _ x.number board room f c.figures_of-q.ensures c.put_figures.ensures;
    }
