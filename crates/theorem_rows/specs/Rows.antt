-- The examples of rules 9.1 to 9.6, as one table.
-- Assumes nothing.
use Rattle.std.specs.Prelude.{◌≡◌, true, false, List, [], ◌∷◌, ℕ, replicate}
use Rattle.common_laws.specs.Bytes.{bytes_of}
use Rattle.description_board.specs.declared.Master.{Master}
use Rattle.description_board.specs.Records.{Slave}
use Rattle.fabric_transfer.specs.declared.Transfer.{Transfer}
use Rattle.fabric_lanes.specs.Lanes.{legal_lanes}
use Rattle.description.specs.Reader.{read_text}
use Rattle.wait_table.specs.Tables.{printed}
use Rattle.fabric_state.specs.Posting.{Request}
use Rattle.fabric_calls.specs.Calls.{after_post}
use Rattle.theorem_rows.specs.RowCalls.{runs, started, phases, grants}

-- the board of the examples, in rules section 9
unfoldable pub board_text : List ℕ
board_text = bytes_of "master,4,8\nmaster,2,1\nslave,4096,4096,2,8,1,0,0,0\nshare,0,0,2\nshare,1,0,3\n"

-- the same with shares 3 and 4
unfoldable pub shares_text : List ℕ
shares_text = bytes_of "master,4,8\nmaster,2,1\nslave,4096,4096,2,8,1,0,0,0\nshare,0,0,3\nshare,1,0,4\n"

-- rule 9.5: what the table program prints for it
unfoldable pub table_output : List ℕ
table_output = bytes_of "master,slave,wait,serve\n0,0,6,32\n1,0,36,2\n"

-- a master and a slave of the given widths, and a burst of some beats
abbrev pub master_with : ℕ → Master
master_with w = record { width = w; burst = 16 }

abbrev pub slave_with : ℕ → ℕ → Slave
slave_with w u = record { base = 0; span = 4096; width = w; burst = u; read_wait = 0; write_wait = 0; native = 0; latency = 0 }

abbrev pub burst_with : ℕ → ℕ → Transfer
burst_with ones n = record { held = true; write = false; address = 0; lanes = ones; beats = n }

-- master m reads one word from the slave's first address
abbrev pub word_read : ℕ → ℕ → Request
word_read m ones = record { master = m; write = false; address = 4096; lanes = ones; beats = 1; words = [] }

pub record Rows : Type 0 where
  -- rule 9.1: 16 accesses, cut at a slave burst of 8
  pub sixteen : runs (master_with 4) (slave_with 4 8) (burst_with 15 16) ≡ 8 ∷ 8 ∷ []
  -- rule 9.1: 14 accesses; the last run is shorter
  pub fourteen : runs (master_with 4) (slave_with 4 8) (burst_with 15 14) ≡ 8 ∷ 6 ∷ []
  -- rule 9.1: 16 accesses at a slave burst of 1
  pub ones : runs (master_with 4) (slave_with 4 1) (burst_with 15 16) ≡ replicate 16 1
  -- rule 9.2: the 6 accesses of 3 beats at a slave half as wide
  pub wider : runs (master_with 4) (slave_with 2 4) (burst_with 15 3) ≡ 4 ∷ 2 ∷ []
  -- rule 9.3: the two upper lanes of four are legal
  pub upper_half : legal_lanes 4 0b1100 ≡ true
  -- rule 9.3: the two in the middle are not: the lowest of them is no multiple of 2
  pub middle : legal_lanes 4 0b0110 ≡ false
  -- rule 9.3: all four are legal
  pub whole : legal_lanes 4 0b1111 ≡ true
  -- rule 9.3: none at all is not
  pub none : legal_lanes 4 0b0000 ≡ false
  -- rule 9.4: who is granted, with shares 3 and 4, in 21 clocks in which both masters always hold a single
  pub shares :
      grants (read_text shares_text).board (word_read 0 0b1111) (word_read 1 0b11) 21 (started (read_text shares_text).board)
      ≡ 0 ∷ 0 ∷ 0 ∷ 1 ∷ 1 ∷ 1 ∷ 1 ∷ 0 ∷ []
  -- rule 9.5: the table of the board
  pub lines : printed board_text ≡ table_output
  -- rule 9.6: a read of one word by master 0, alone: the phase and the mask of each clock
  pub alone :
      phases (read_text board_text).board 4
      (after_post (read_text board_text).board (started (read_text board_text).board) (word_read 0 0b1111))
      ≡ (1, 0) ∷ (2, 0) ∷ (1, 0) ∷ (2, 1) ∷ []
