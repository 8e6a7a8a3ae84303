-- `fabric_begin::begin` meets its contract: a refusal, or the masks.
-- Assumes nothing.
use mathlib.Core.Path.{◌≡◌, sym}
use Rattle.std.proofs.lemmas.Result.{err_from_is_err_and}
use Rattle.description_layout.specs.Layout.{board_in}
use Rattle.fabric_layout.specs.Layout.{state_in}
use Rattle.fabric_calls.specs.Calls.{clock_refusal}
use Rattle.fabric_begin.proofs.BeginLaws.{begin_number, begins_on_refused, begins_refused, begin_decoded, begins_accepted}
use Rattle.fabric_begin.proofs.begin.Goals.{In_ok-clock_refusal_by}
use Rattle.fabric_begin.proofs.begin.Goals as goal

pub returns-in_err-sound : goal.returns-in_err-sound
returns-in_err-sound c =
    let p = err_from_is_err_and c.from_residual.result c.from_residual.ensures.1 in
    rw (p.1, p.2) (begins_on_refused _ _ _ _ _ c.in_err-sound.ensures)

pub returns-in_err-clock_refusal_by : goal.returns-in_err-clock_refusal_by
returns-in_err-clock_refusal_by c =
    let p = err_from_is_err_and c.from_residual-in_err-clock_refusal_by.result c.from_residual-in_err-clock_refusal_by.ensures.1 in
    rw (p.1, p.2) (begins_refused _ _ _ _ _ (begin_number _ _ _ c.in_ok-sound.ensures c.in_err-clock_refusal_by.ensures))

-- nothing is refused
none : (c : In_ok-clock_refusal_by) → clock_refusal (board_in c.args.board.now) (state_in c.args.state.now) (record { memory = c.args.memory.now; buffer = c.args.buffer.now }) ≡ 0
none c = sym (begin_number _ _ _ c.in_ok-sound.ensures c.in_ok-clock_refusal_by.ensures)

pub unmapped_mask-requires : goal.unmapped_mask-requires
unmapped_mask-requires c =
    begin_decoded _ _ _ (none (goal.at.unmapped_mask-requires c).In_ok-clock_refusal_by) c.in_ok-sound.ensures

pub returns : goal.returns
returns c =
    begins_accepted _ _ _ (none (goal.at.returns c).In_ok-clock_refusal_by) c.in_ok-sound.ensures c.request_masks.ensures c.unmapped_mask.ensures
