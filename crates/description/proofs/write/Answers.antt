-- `description::write` meets its contract. Refused for the board, refused for the room, written.
-- Assumes nothing.
use mathlib.Core.Path.{◌≡◌, ap, sym, ◌∙◌}
use mathlib.Core.List.{List}
use Prim.Native.Nat.{ℕ, ◌≤◌}
use native.Mathlib.Omega.{arith}
use lib.ListN.{length}
use Rattle.std.proofs.lemmas.Result.{err_from_is_err_and}
use Rattle.common_numbers.proofs.RefusalLaws.{refusal_not_zero}
use Rattle.description_board.specs.Items.{board_refusal}
use Rattle.description_board.specs.declared.Board.{Board}
use Rattle.description.proofs.Trip.{text_room}
use Rattle.description.proofs.BoardText.{Writes, board_refused, room_refused, text_written}
use Rattle.description.specs.Writer.{Written, write_answer, write_output}
use Rattle.description.specs.Longest.{longest}
use Rattle.description_layout.specs.Layout.{board_in}
use Rattle.description.proofs.write.Goals as goal

-- the promises, for an output of at least so many bytes
record Promised (b : Board) (out : List ℕ) (most : ℕ) (r : Written) (after : List ℕ) : Type 0 where
  answer : r ≡ write_answer b out
  output : after ≡ write_output b out
  room : most ≤ length out → r.number ≡ board_refusal b

-- the third promise follows from the first, for an output of at least `longest` bytes
promised : (b : Board) (out : List ℕ) (most : ℕ) {r : Written} {after : List ℕ} → longest ≤ most → Writes b out r after
    → Promised b out most r after
unfolding write_answer
promised b out most l w = record {
  answer = w.0;
  output = w.1;
  room = λ h. ap (λ (r : Written). r.number) w.0 ∙ text_room b out (omega arith);
}

pub returns-in_err-board_refusal : goal.returns-in_err-board_refusal
unfolding longest
returns-in_err-board_refusal c =
    let p = err_from_is_err_and c.from_residual.result c.from_residual.ensures.1 in
    let a = c.args in
    let b = board_in a.board.now in
    let w = promised b a.out.now _ (omega arith)
    (board_refused b a.out.now _ c.in_err-board_refusal.ensures (λ z. refusal_not_zero _ z)) in
    rw (p.1, p.2) (record { answer = w.answer; output = w.output; room = w.room })

pub returns-then-out-length : goal.returns-then-out-length
unfolding longest
returns-then-out-length c =
    let a = c.args in
    let b = board_in a.board.now in
    let w = promised b a.out.now _ (omega arith)
    (room_refused b a.out.now (sym c.in_ok-board_refusal.ensures)
    (omega (arith, c.board_length-length.ensures, c.if-out-length.true))) in
    record { answer = w.answer; output = w.output; room = w.room }

pub returns : goal.returns
unfolding longest
returns c =
    let a = c.args in
    let b = board_in a.board.now in
    let w = promised b a.out.now _ (omega arith)
    (text_written b a.out.now (sym c.in_ok-board_refusal.ensures) _ _
    (omega (arith, c.board_length-length.ensures, c.if-out-length.false)) c.put_board.ensures) in
    record { answer = w.answer; output = w.output; room = w.room }
