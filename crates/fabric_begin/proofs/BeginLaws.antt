-- What a clock begins with, by what the check of board and state found.
-- Assumes nothing.
use mathlib.Core.Path.{◌≡◌, sym, ap, ◌∙◌}
use mathlib.Core.Bool.{Bool, true, ◌&&◌}
use mathlib.Core.List.{List}
use Prim.Native.Nat.{ℕ}
use lib.ListN.{length}
use Rattle.std.proofs.Common.{Result, Ok, Err}
use Rattle.common_laws.specs.Lists.{table, every}
use Rattle.common_laws.proofs.Tests.{both}
use Rattle.common_numbers.specs.Refusals.{refusal_number}
use Rattle.common_numbers.specs.declared.Refusal.{Refusal}
use Rattle.common_numbers.proofs.RefusalLaws.{refusal_not_zero}
use Rattle.description_board.specs.declared.Board.{Board}
use Rattle.description_board.specs.Records.{memory_length}
use Rattle.description_board.specs.Items.{board_refusal}
use Rattle.fabric_transfer.specs.Bytes.{Store}
use Rattle.fabric_state.specs.declared.State.{State}
use Rattle.fabric_state.specs.Soundness.{sound_transfer, sound_slot, sound_log, sound}
use Rattle.fabric_check.specs.Code.Targets.{targets_in, request_mask, unmapped_mask}
use Rattle.fabric_check.specs.Code.Checks.{Decoded, Preconditions}
use Rattle.fabric_calls.specs.Calls.{clock_refusal}
use Rattle.fabric_calls.specs.Code.Refusals.{clock_refusal_by}
use Rattle.fabric_calls.proofs.ClockLaws.{board_first, refusal_found}
use Rattle.fabric_calls.proofs.RunOfClocks.{accepted_board, keeps_rules}
use Rattle.fabric_begin.specs.Code.Beginnings.{Beginning}

-- what the check of board and state found is what the mask asks for
decoded_of : (b : Board) (st : State) {ts : List ℕ} → board_refusal b ≡ 0 → sound b st ≡ true → ts ≡ targets_in b st.transfers
    → Decoded b st ts
unfolding sound
decoded_of b st ok keeps e = record {
  board = ok;
  transfers = (both (every (sound_transfer b st) 8) (every (sound_slot b st) b.slave_count && sound_log st.log) keeps).0;
  targets = e;
}

-- a clock that is refused
pub begins_refused : (b : Board) (st : State) (d : Store) (masks : List ℕ) (r : Refusal) → refusal_number r ≡ clock_refusal b st d
    → Beginning b st d masks (Err r)
begins_refused b st d masks r e =
    record { number = e; holders = λ z. refusal_not_zero r z; unmapped = λ z. refusal_not_zero r z }

-- the check refuses the board, and so the clock
pub begins_on_refused : (b : Board) (st : State) (d : Store) (masks : List ℕ) (e : Refusal) {ts : List ℕ}
    → Preconditions b st (Err e) ts → Beginning b st d masks (Err e)
begins_on_refused b st d masks e checked =
    begins_refused b st d masks e (checked.number ∙ sym (board_first b st d (λ z. refusal_not_zero e (checked.number ∙ z))))

-- the board is accepted: the refusal's number, by what the check found and the lengths
pub begin_number : (b : Board) (st : State) (d : Store) {sound : Bool} {ts : List ℕ} → Preconditions b st (Ok sound) ts → {n : ℕ}
    → n ≡ clock_refusal_by 0 (memory_length b) sound (length d.memory) (length d.buffer) → n ≡ clock_refusal b st d
begin_number b st d {sound} checked e = e ∙ refusal_found b st d 0 sound checked.number checked.sound

-- one that is not: the check has found the slave of each transfer
module _ (b : Board) (st : State) (d : Store) (free : clock_refusal b st d ≡ 0) {r : Result Bool Refusal} {ts : List ℕ}
    (checked : Preconditions b st r ts) where
  found : ts ≡ targets_in b st.transfers
  found = checked.targets (accepted_board b st d free) (keeps_rules b st d free)

  pub begin_decoded : Decoded b st ts
  begin_decoded = decoded_of b st (accepted_board b st d free) (keeps_rules b st d free) found

  pub begins_accepted : {masks : List ℕ} {u : ℕ} → masks ≡ table (request_mask ts) 16 → u ≡ unmapped_mask b st
      → Beginning b st d masks (Ok u)
  begins_accepted e f = record {
    number = sym free;
    holders = λ _. e ∙ ap (λ (l : List ℕ). table (request_mask l) 16) found;
    unmapped = λ _. f;
  }
