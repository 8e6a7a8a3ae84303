-- `fabric::post` meets its contract. A post that is not refused has words that fit its master's part.
-- Assumes nothing.
use mathlib.Core.Path.{◌≡◌, refl, sym}
use mathlib.Core.Bool.{true}
use lib.ListN.{length}
use Rattle.std.proofs.lemmas.Result.{err_from_is_err_and}
use Rattle.common_numbers.proofs.RefusalLaws.{refusal_not_zero}
use Rattle.description_board.specs.Items.{board_refusal}
use Rattle.description_layout.specs.Layout.{board_in}
use Rattle.fabric_transfer.specs.Bytes.{buffer_length}
use Rattle.fabric_layout.specs.Layout.{state_in}
use Rattle.fabric_calls.specs.Calls.{post_refusal}
use Rattle.fabric_calls.proofs.PostLaws.{Taken, taken, some_part, words_fit, post_refused, post_taken_lem}
use Rattle.fabric.proofs.post.Goals.{In_ok-post_refusal_by}
use Rattle.fabric.proofs.post.Goals as goal

pub returns-in_err-post_refusal_by : goal.returns-in_err-post_refusal_by
unfolding post_refusal
returns-in_err-post_refusal_by c =
    let p = err_from_is_err_and c.from_residual.result c.from_residual.ensures.1 in
    rw (p.1, p.2) (post_refused _ _ _ _ c.in_err-post_refusal_by.ensures (refusal_not_zero _))

fits : (c : In_ok-post_refusal_by) → let a = c.args in
    (board_refusal (board_in a.board.now) ≡ 0) × (length a.buffer.now ≡ buffer_length)
    × Taken (board_in a.board.now) (state_in a.state.now) a.master
    (record { held = true; write = a.write; address = a.address; lanes = a.lanes; beats = a.beats }) (length a.words.now)
fits c = taken _ _ _ _ _ _ (sym c.in_ok-post_refusal_by.ensures)

pub post_words-requires : goal.post_words-requires
post_words-requires c =
    let f = fits (goal.at.post_words-requires c).In_ok-post_refusal_by in (f.1, some_part _ _ _ f.0 f.2, words_fit _ _ _ f.0 f.2)

pub put_transfer-requires : goal.put_transfer-requires
put_transfer-requires c =
    let f = fits (goal.at.put_transfer-requires c).In_ok-post_refusal_by in
    some_part _ _ _ f.0 f.2

pub returns : goal.returns
unfolding post_refusal
returns c =
    post_taken_lem _ _ _ _ c.in_ok-post_refusal_by.ensures refl
    c.put_transfer.ensures.state c.put_transfer.ensures.numbers c.post_words.ensures
