-- A second reading of rules 4.10, 4.12 and 6.8, card by card: what a native card does with each beat of each master, and what a
-- card with bus sizing does with each byte. `native_card` and `sized_card` prove both of every pair.
-- Assumes nothing.
use Rattle.std.specs.Prelude.{◌≡◌, true, false, cond, List, ℕ, ◌+◌, ◌-◌, ◌*◌, ◌/◌, ◌%◌, ◌^◌, ◌≤◌, ◌<◌, ltb, get_or}
use Rattle.common_laws.specs.Bits.{bit}
use Rattle.description_board.specs.declared.Master.{Master}
use Rattle.description_board.specs.Records.{Slave}
use Rattle.fabric_lanes.specs.Lanes.{all_lanes}
use Rattle.fabric_transfer.specs.declared.Transfer.{Transfer}
use Rattle.fabric_transfer.specs.Accesses.{word_offset, slave_lanes, accesses, access_number}
use Rattle.fabric_transfer.specs.Runs.{run_limit}
use Rattle.fabric_transfer.specs.Bytes.{memory_index, stores, byte_read}

-- the word that the transfer t begins with, counted from the slave's base in words of the master
abbrev pub first_word : Master → Slave → Transfer → ℕ
first_word ma sl t = (t.address - sl.base) / ma.width

-- a slave with native alignment, and a master that is not narrower
pub record NativeCard (ma : Master) (sl : Slave) : Type 0 where
  -- a beat is one access, whatever its lanes, at the offset of its word in slave words
  pub beat : (t : Transfer) → accesses ma sl t ≡ t.beats
  pub number : (t : Transfer) (k : ℕ) → k < t.beats → access_number ma sl t k ≡ k
  pub offset : (t : Transfer) (k : ℕ) → word_offset ma sl t k ≡ (first_word ma sl t + k) * sl.width
  -- a read shows all lanes of the slave, a write the master's lanes below the slave's width
  pub read_lanes : (t : Transfer) (k : ℕ) → t.write ≡ false → slave_lanes ma sl t k ≡ all_lanes sl.width
  pub write_lanes : (t : Transfer) (k : ℕ) → t.write ≡ true → slave_lanes ma sl t k ≡ t.lanes % 2 ^ sl.width
  -- the slave's burst cuts runs
  pub run : run_limit ma sl ≡ sl.burst
  -- byte j of beat k below the slave's width: where it lies, what a read brings, whether a write stores it
  pub index : (t : Transfer) (start k j : ℕ) → j < sl.width
      → memory_index ma sl t start (k * ma.width + j) ≡ start + ((first_word ma sl t + k) * sl.width + j)
  pub read : (t : Transfer) (start : ℕ) (memory : List ℕ) (k j : ℕ) → j < sl.width
      → byte_read ma sl t start memory (k * ma.width + j) ≡ get_or memory (start + ((first_word ma sl t + k) * sl.width + j)) 0
  pub stored : (t : Transfer) (k j : ℕ) → j < sl.width → stores ma sl t (k * ma.width + j) ≡ bit t.lanes j
  -- any other byte of the beat reads as 0, and is stored nowhere
  pub zero : (t : Transfer) (start : ℕ) (memory : List ℕ) (k j : ℕ) → sl.width ≤ j → j < ma.width
      → byte_read ma sl t start memory (k * ma.width + j) ≡ 0
  pub nowhere : (t : Transfer) (k j : ℕ) → sl.width ≤ j → j < ma.width → stores ma sl t (k * ma.width + j) ≡ false

-- a slave with bus sizing, and any master: the accesses of a read's beat (a write's are in `CarriedOut`); byte i of the transfer
-- lies i bytes behind its address
pub record SizedCard (ma : Master) (sl : Slave) : Type 0 where
  pub beat : (t : Transfer) → t.write ≡ false
      → accesses ma sl t ≡ t.beats * cond (ltb sl.width ma.width) (ma.width / sl.width) 1
  pub index : (t : Transfer) (start i : ℕ) → memory_index ma sl t start i ≡ start + (t.address - sl.base + i)
  pub read : (t : Transfer) (start : ℕ) (memory : List ℕ) (i : ℕ)
      → byte_read ma sl t start memory i ≡ get_or memory (start + (t.address - sl.base + i)) 0
  pub stored : (t : Transfer) (i : ℕ) → stores ma sl t i ≡ bit t.lanes (i % ma.width)
