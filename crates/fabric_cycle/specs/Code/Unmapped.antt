-- Gives the code of fabric_cycle its shape: unmapped transfers answered (rules 4.17, 4.18), behind what the slaves do, by a mask of who
-- holds one.
-- Assumes nothing.
use Rattle.std.specs.Prelude.{◌≡◌, true, cond, List, ℕ, zero, suc, ◌*◌, ◌≤◌, ◌<◌, ltb, length}
use Rattle.common_laws.specs.Bits.{bit}
use Rattle.common_laws.specs.Lists.{table}
use Rattle.description_board.specs.declared.Board.{Board}
use Rattle.description_board.specs.Records.{master_at}
use Rattle.fabric_transfer.specs.declared.Transfer.{Transfer}
use Rattle.fabric_transfer.specs.Accesses.{no_transfer}
use Rattle.fabric_transfer.specs.Bytes.{buffer_length, cleared_words}
use Rattle.fabric_state.specs.declared.Log.{Log}
use Rattle.fabric_state.specs.declared.State.{State}
use Rattle.fabric_state.specs.Records.{transfer_at}
use Rattle.fabric_state.specs.Posting.{with_transfer}
use Rattle.fabric_state.specs.Logging.{entry_of, entered, with_log}

-- the transfer of master m: an unmapped one ends
unfoldable pub answered_transfer : State → ℕ → ℕ → Transfer
answered_transfer v mask m = cond (bit mask m) no_transfer (transfer_at v m)

-- the bytes of the transfer that master m holds
abbrev pub bytes_held : Board → State → ℕ → ℕ
bytes_held b v m = (transfer_at v m).beats * (master_at b m).width

-- the unmapped transfer of master m ends, and enters the log
unfoldable pub answered_at : State → ℕ → State
answered_at v m = with_log (with_transfer v m no_transfer) (entered v.log (entry_of m (transfer_at v m)))

-- the buffer behind the unmapped transfer t of master m: of a read the words are zeros
unfoldable pub cleared_behind : Board → ℕ → Transfer → List ℕ → List ℕ
cleared_behind b m t buffer = cond t.write buffer (cleared_words m (t.beats * (master_at b m).width) buffer)

-- of the transfer that it holds
unfoldable pub cleared_at : Board → State → ℕ → List ℕ → List ℕ
cleared_at b v m buffer = cleared_behind b m (transfer_at v m) buffer

-- the log, and the buffer, with those of the first n masters
unfoldable pub entered_for : State → ℕ → ℕ → Log
entered_for v mask zero = v.log
entered_for v mask (suc n) =
    cond (bit mask n) (entered (entered_for v mask n) (entry_of n (transfer_at v n))) (entered_for v mask n)

unfoldable pub cleared_for : Board → State → ℕ → ℕ → List ℕ → List ℕ
cleared_for b v mask zero buffer = buffer
cleared_for b v mask (suc n) buffer =
    cond (bit mask n) (cleared_at b v n (cleared_for b v mask n buffer)) (cleared_for b v mask n buffer)

-- the unmapped transfers of the first n masters are answered: w is what was v, and the buffer was words and is left
pub record Answered (b : Board) (v w : State) (mask n : ℕ) (words left : List ℕ) : Type 0 where
  pub transfers : w.transfers ≡ table (λ m. cond (ltb m n) (answered_transfer v mask m) (transfer_at v m)) 8
  pub slots : w.slots ≡ v.slots
  pub late : w.late ≡ v.late
  pub log : w.log ≡ entered_for v mask n
  pub buffer : left ≡ cleared_for b v mask n words

-- they can be: the log's count is one, the buffer has its length, and each transfer fits its master's part
pub record Answerable (b : Board) (v : State) (mask : ℕ) (buffer : List ℕ) : Type 0 where
  pub count : v.log.count ≤ 8
  pub room : length buffer ≡ buffer_length
  pub fits : (m : ℕ) → m < 8 → bit mask m ≡ true → bytes_held b v m ≤ 512
