-- The examples of rules 9.9 to 9.11: a native card of 2 bytes, and a master of 4.
-- Assumes nothing.
use Rattle.std.specs.Prelude.{◌≡◌, true, false, List, [], ◌∷◌, ℕ, suc, take, set, replicate}
use Rattle.common_laws.specs.Bytes.{bytes_of}
use Rattle.common_laws.specs.Lists.{table}
use Rattle.description_board.specs.declared.Board.{Board}
use Rattle.description_board.specs.Records.{no_master, no_slave}
use Rattle.description_board.specs.Items.{board_refusal}
use Rattle.description.specs.Reader.{read_text}
use Rattle.fabric_transfer.specs.Bytes.{buffer_length}
use Rattle.fabric_state.specs.declared.Line.{Line}
use Rattle.fabric_state.specs.Records.{no_line}
use Rattle.fabric_state.specs.Posting.{Request}
use Rattle.fabric_calls.specs.Calls.{World, reset, post, after_post}
use Rattle.wait_table.specs.Tables.{printed}
use Rattle.theorem_rows.specs.RowCalls.{clocked_from, shown_from, access}

-- the board of rule 9.9: the card has 16 bytes, a burst of 2 and no waits
unfoldable pub native_text : List ℕ
native_text = bytes_of "master,4,4\nslave,0,16,2,2,0,0,1,0\nshare,0,0,1\n"

unfoldable pub native_board : Board
native_board = (read_text native_text).board

-- after a reset: memory bytes 1, 2, .. 16, and a buffer of nines
unfoldable pub native_start : World
native_start = record {
  state = (reset native_board).state;
  store = record { memory = table suc 16; buffer = replicate buffer_length 9 };
}

-- a read with all lanes, and a write of the word a1 a2 a3 a4 (hex) at address 4
abbrev pub read_of : ℕ → ℕ → Request
read_of address beats = record { master = 0; write = false; address = address; lanes = 0b1111; beats = beats; words = [] }

abbrev pub write_of : ℕ → Request
write_of lanes =
    record { master = 0; write = true; address = 4; lanes = lanes; beats = 1; words = 161 ∷ 162 ∷ 163 ∷ 164 ∷ [] }

-- the request posted there, and then n clocks
unfoldable pub clocked_with : Request → ℕ → World
clocked_with q n = clocked_from native_board (after_post native_board native_start q) n

-- what the card shows in each of n clocks behind the post
unfoldable pub shown_with : Request → ℕ → List Line
shown_with q n = shown_from native_board (after_post native_board native_start q) n

-- what a read answers there
unfoldable pub native_answers : ℕ → ℕ → ℕ
native_answers address beats =
    (post native_board native_start.state native_start.store.buffer (read_of address beats)).number

-- a board that no reader made: a master of the given width, joined to a card of 2 bytes
unfoldable pub joined : ℕ → ℕ → Board
joined width native = record {
  master_count = 1;
  slave_count = 1;
  masters = set (replicate 8 no_master) 0 (record { width = width; burst = 4 });
  slaves =
      set (replicate 16 no_slave) 0
      (record { base = 0; span = 16; width = 2; burst = 2; read_wait = 0; write_wait = 0; native = native; latency = 0 });
  shares = set (replicate 128 0) 0 1;
  default_line = false;
}

pub record NativeRows : Type 0 where
  -- rule 9.9: a read of the word at address 4, word 1: one access at offset 2, with both lanes of the card
  pub word : shown_with (read_of 4 1) 2 ≡ access 2 0b11 1 0 ∷ no_line ∷ []
  -- rule 9.9: the card's two bytes, two zeros; behind them the buffer is as it was
  pub word_bytes : take 6 (clocked_with (read_of 4 1) 1).store.buffer ≡ 3 ∷ 4 ∷ 0 ∷ 0 ∷ 9 ∷ 9 ∷ []
  -- rule 9.9: three beats: offsets 2, 4 and 6, in runs of 2 and 1
  pub burst : shown_with (read_of 4 3) 4 ≡ access 2 0b11 2 0 ∷ access 4 0b11 2 1 ∷ access 6 0b11 1 0 ∷ no_line ∷ []
  pub burst_bytes : take 13 (clocked_with (read_of 4 3) 3).store.buffer
      ≡ 3 ∷ 4 ∷ 0 ∷ 0 ∷ 5 ∷ 6 ∷ 0 ∷ 0 ∷ 7 ∷ 8 ∷ 0 ∷ 0 ∷ 9 ∷ []
  -- rule 9.10: a write whose lanes lie all above the card's width: one access, no lane, the memory as it was
  pub no_lane : shown_with (write_of 0b1100) 2 ≡ access 2 0 1 0 ∷ no_line ∷ []
  pub no_byte : (clocked_with (write_of 0b1100) 1).store.memory ≡ table suc 16
  -- rule 9.10: of a write with all lanes the card takes the lower two bytes
  pub two_lanes : shown_with (write_of 0b1111) 2 ≡ access 2 0b11 1 0 ∷ no_line ∷ []
  pub two_bytes : take 6 (clocked_with (write_of 0b1111) 1).store.memory ≡ 1 ∷ 2 ∷ 161 ∷ 162 ∷ 5 ∷ 6 ∷ []
  -- rule 9.11: the last word by address, and a beat too many there (7.17)
  pub last_word : native_answers 12 1 ≡ 0
  pub past_end : native_answers 12 2 ≡ 17
  -- rule 9.11: a share line that joins a narrower master (7.19), and one as wide as the card
  pub narrow : (read_text (bytes_of "master,1,4\nslave,0,16,2,2,0,0,1,0\nshare,0,0,1\n")).number ≡ 19
  pub as_wide : (read_text (bytes_of "master,2,4\nslave,0,16,2,2,0,0,1,0\nshare,0,0,1\n")).number ≡ 0
  -- rule 9.11: the same of a board that no reader made; with bus sizing it is taken
  pub lent_narrow : board_refusal (joined 1 1) ≡ 19
  pub lent_wide : board_refusal (joined 4 1) ≡ 0
  pub lent_sized : board_refusal (joined 1 0) ≡ 0
  -- rule 9.11: slave lines of six and of seven numbers (7.1), and one whose native is neither 0 nor 1 (7.3)
  pub six_numbers : (read_text (bytes_of "master,4,4\nslave,0,16,2,2,0,0\nshare,0,0,1\n")).number ≡ 1
  pub seven_numbers : (read_text (bytes_of "master,4,4\nslave,0,16,2,2,0,0,1\nshare,0,0,1\n")).number ≡ 1
  pub two : (read_text (bytes_of "master,4,4\nslave,0,16,2,2,0,0,2,0\nshare,0,0,1\n")).number ≡ 3
  -- rule 9.11: a beat of each master is one access (5.2)
  pub figures : printed (bytes_of "master,4,4\nmaster,8,2\nslave,0,16,2,2,1,0,1,0\nshare,0,0,2\nshare,1,0,1\n")
      ≡ bytes_of "master,slave,wait,serve\n0,0,4,8\n1,0,10,4\n"
