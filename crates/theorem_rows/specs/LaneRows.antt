-- The examples of rule 9.17: writes and a read with some of the lanes, of a master of 8 bytes at a card of 2.
-- Assumes nothing.
use Rattle.std.specs.Prelude.{◌≡◌, true, false, List, [], ◌∷◌, ℕ, suc, take, drop, set, replicate}
use Rattle.common_laws.specs.Bytes.{bytes_of}
use Rattle.common_laws.specs.Lists.{table}
use Rattle.description_board.specs.Records.{Slave}
use Rattle.description_board.specs.declared.Board.{Board}
use Rattle.description.specs.Reader.{read_text}
use Rattle.fabric_transfer.specs.declared.Transfer.{Transfer}
use Rattle.fabric_transfer.specs.Accesses.{access_numbers, own_length}
use Rattle.fabric_transfer.specs.Bytes.{buffer_length}
use Rattle.fabric_state.specs.declared.Slot.{Slot}
use Rattle.fabric_state.specs.Records.{no_line}
use Rattle.fabric_state.specs.Posting.{Request}
use Rattle.fabric_calls.specs.Calls.{World, reset, clock, after_post}
use Rattle.wait_table.specs.Tables.{printed}
use Rattle.theorem_rows.specs.RowCalls.{runs, phases, clocked_from, shown_from, waiting, access}
use Rattle.theorem_rows.specs.Rows.{master_with, slave_with}

-- the board of rule 9.17: a write waits one clock, a read none
unfoldable pub lane_text : List ℕ
lane_text = bytes_of "master,8,2\nslave,0,32,2,8,0,1,0,0\nshare,0,0,1\n"

unfoldable pub lane_board : Board
lane_board = (read_text lane_text).board

-- a write of the word a1 .. a8 (hex) at address 8, and a read there
abbrev pub lane_write : ℕ → Request
lane_write lanes = record {
  master = 0;
  write = true;
  address = 8;
  lanes = lanes;
  beats = 1;
  words = 161 ∷ 162 ∷ 163 ∷ 164 ∷ 165 ∷ 166 ∷ 167 ∷ 168 ∷ [];
}

abbrev pub read_lanes : ℕ → Request
read_lanes lanes = record { master = 0; write = false; address = 8; lanes = lanes; beats = 1; words = [] }

-- the request posted after a reset: memory bytes 1, 2, .. 32, and a buffer of zeros
unfoldable pub lane_posted : Request → World
lane_posted q =
    after_post lane_board
    (record {
      state = (reset lane_board).state;
      store = record { memory = table suc 32; buffer = replicate buffer_length 0 };
    })
    q

-- the number that a clock answers where the card serves that request, with so many accesses done
unfoldable pub served_answers : Request → ℕ → ℕ
served_answers q done =
    let w = lane_posted q in
    let slot : Slot = record { owner = 0; remaining = 0; serving = true; done = done; waited = 0 } in
    (clock lane_board
    (record { transfers = w.state.transfers; slots = set w.state.slots 0 slot; late = w.state.late; log = w.state.log })
    w.store).number

-- a word written by itself, and a slave of the given width and burst with native alignment
abbrev pub word_with : ℕ → Transfer
word_with lanes = record { held = true; write = true; address = 0; lanes = lanes; beats = 1 }

abbrev pub native_with : ℕ → ℕ → Slave
native_with w u = record { base = 0; span = 4096; width = w; burst = u; read_wait = 0; write_wait = 0; native = 1; latency = 0 }

pub record LaneRows : Type 0 where
  -- lanes 00001100: one access, two bytes behind the address, with its wait
  pub quarter : shown_from lane_board (lane_posted (lane_write 0b00001100)) 3
      ≡ waiting 10 0b11 1 0 ∷ access 10 0b11 1 0 ∷ no_line ∷ []
  pub quarter_ends : phases lane_board 2 (lane_posted (lane_write 0b00001100)) ≡ (1, 0) ∷ (2, 1) ∷ []
  pub quarter_bytes : drop 8 (take 16 (clocked_from lane_board (lane_posted (lane_write 0b00001100)) 2).store.memory)
      ≡ 9 ∷ 10 ∷ 163 ∷ 164 ∷ 13 ∷ 14 ∷ 15 ∷ 16 ∷ []
  -- lanes 11110000: two accesses, four and six bytes behind it, in one run
  pub half : shown_from lane_board (lane_posted (lane_write 0b11110000)) 5
      ≡ waiting 12 0b11 2 0 ∷ access 12 0b11 2 0 ∷ waiting 14 0b11 2 1 ∷ access 14 0b11 2 1 ∷ no_line ∷ []
  pub half_bytes : drop 8 (take 16 (clocked_from lane_board (lane_posted (lane_write 0b11110000)) 4).store.memory)
      ≡ 9 ∷ 10 ∷ 11 ∷ 12 ∷ 165 ∷ 166 ∷ 167 ∷ 168 ∷ []
  -- a single lane: the access that has it, with the one lane of the card
  pub single : shown_from lane_board (lane_posted (lane_write 0b00100000)) 3
      ≡ waiting 12 0b10 1 0 ∷ access 12 0b10 1 0 ∷ no_line ∷ []
  -- all lanes: four accesses
  pub all : shown_from lane_board (lane_posted (lane_write 0b11111111)) 9
      ≡ waiting 8 0b11 4 0 ∷ access 8 0b11 4 0 ∷ waiting 10 0b11 4 1 ∷ access 10 0b11 4 1
      ∷ waiting 12 0b11 4 2 ∷ access 12 0b11 4 2 ∷ waiting 14 0b11 4 3 ∷ access 14 0b11 4 3 ∷ no_line ∷ []
  -- a read with lanes 00001100: four accesses, and all bytes
  pub read : shown_from lane_board (lane_posted (read_lanes 0b00001100)) 5
      ≡ access 8 0b11 4 0 ∷ access 10 0b11 4 1 ∷ access 12 0b11 4 2 ∷ access 14 0b11 4 3 ∷ no_line ∷ []
  pub read_bytes : take 8 (clocked_from lane_board (lane_posted (read_lanes 0b00001100)) 4).store.buffer
      ≡ 9 ∷ 10 ∷ 11 ∷ 12 ∷ 13 ∷ 14 ∷ 15 ∷ 16 ∷ []
  -- the numbers of those that are carried out; at a native card the one of the beat, whatever its lanes
  pub numbers : access_numbers (master_with 8) (slave_with 2 8) (word_with 0b11110000) ≡ 2 ∷ 3 ∷ []
  pub native : access_numbers (master_with 8) (native_with 2 8) (word_with 0b11110000) ≡ 0 ∷ []
  -- what is carried out is cut into runs: at a card of width 1 and burst 2, lanes 11110000
  pub cut : runs (master_with 8) (slave_with 1 2) (word_with 0b11110000) ≡ 2 ∷ 2 ∷ []
  -- the own length counts what is carried out (5.4)
  pub length : own_length (master_with 8) (slave_with 1 2) (word_with 0b00001100) ≡ 2
  -- the accesses done that a state may have are fewer than those (7.9)
  pub one_left : served_answers (lane_write 0b00001100) 0 ≡ 0
  pub none_left : served_answers (lane_write 0b00001100) 1 ≡ 9
  pub half_left : served_answers (lane_write 0b11110000) 1 ≡ 0
  pub half_done : served_answers (lane_write 0b11110000) 2 ≡ 9
  pub last_read : served_answers (read_lanes 0b00001100) 3 ≡ 0
  pub read_done : served_answers (read_lanes 0b00001100) 4 ≡ 9
  -- the figures are those of all lanes (5.5)
  pub figures : printed lane_text ≡ bytes_of "master,slave,wait,serve\n0,0,0,16\n"
