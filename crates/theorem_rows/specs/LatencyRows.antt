-- The examples of rule 9.18: reads and writes at a card with read latency, what a master may do meanwhile, and the figures.
-- Assumes nothing.
use Rattle.std.specs.Prelude.{◌≡◌, true, false, List, [], ◌∷◌, ◌++◌, ℕ, suc, take, drop, set, replicate}
use Rattle.common_laws.specs.Bytes.{bytes_of}
use Rattle.common_laws.specs.Lists.{table}
use Rattle.description_board.specs.declared.Board.{Board}
use Rattle.description_board.specs.Records.{slave_at}
use Rattle.description.specs.Reader.{read_text}
use Rattle.fabric_transfer.specs.Accesses.{no_transfer}
use Rattle.fabric_transfer.specs.Bytes.{buffer_length}
use Rattle.fabric_state.specs.declared.Slot.{Slot}
use Rattle.fabric_state.specs.declared.Line.{Line}
use Rattle.fabric_state.specs.declared.State.{State}
use Rattle.fabric_state.specs.Records.{no_line, transfer_at}
use Rattle.fabric_state.specs.Posting.{Request, transfer_of}
use Rattle.fabric_calls.specs.Calls.{World, reset, post, clock, after_post}
use Rattle.wait_turns.specs.Waits.{longest_access, single_access}
use Rattle.wait_turns.specs.Sums.{turn_at}
use Rattle.wait_table.specs.Tables.{printed}
use Rattle.theorem_rows.specs.RowCalls.{started, clocked_from, shown_from, access, phases, grants}

-- the board of rule 9.18: two masters, and a card of 16 bytes without waits; its line ends in these numbers
unfoldable pub ending_in : List ℕ → List ℕ
ending_in last = bytes_of "master,4,1\nmaster,4,1\nslave,0,16,4,1,0,0," ++ last ++ bytes_of "\nshare,0,0,3\nshare,1,0,1\n"

-- a read latency of 2 clocks
unfoldable pub latency_board : Board
latency_board = (read_text (ending_in (bytes_of "0,2"))).board

-- the same card without latency
unfoldable pub zero_latency : Board
zero_latency = (read_text (ending_in (bytes_of "0,0"))).board

-- master m reads the word at address 4, or writes a1 a2 a3 a4 (hex) there
abbrev pub read_by : ℕ → Request
read_by m = record { master = m; write = false; address = 4; lanes = 0b1111; beats = 1; words = [] }

abbrev pub write_by : ℕ → Request
write_by m =
    record { master = m; write = true; address = 4; lanes = 0b1111; beats = 1; words = 161 ∷ 162 ∷ 163 ∷ 164 ∷ [] }

-- after a reset: memory bytes 1, 2, .. 16, and a buffer of zeros
unfoldable pub latency_start : Board → World
latency_start b = record {
  state = (reset b).state;
  store = record { memory = table suc 16; buffer = replicate buffer_length 0 };
}

-- the request posted there, alone
unfoldable pub alone_with : Request → World
alone_with q = after_post latency_board (latency_start latency_board) q

-- a read by master 0, and a request of master 1 posted before the same clock
unfoldable pub beside_read : Request → World
beside_read q = after_post latency_board (alone_with (read_by 0)) q

-- what stands n clocks behind the post of a read by master 0, alone
unfoldable pub read_clocked : ℕ → World
read_clocked n = clocked_from latency_board (alone_with (read_by 0)) n

-- what another post of master 0 answers then
unfoldable pub post_answers : ℕ → ℕ
post_answers n = (post latency_board (read_clocked n).state (read_clocked n).store.buffer (read_by 0)).number

-- the number that a clock answers where master m of that state has n latency clocks to pass
unfoldable pub late_answers : World → ℕ → ℕ → ℕ
late_answers w m n =
    (clock latency_board
    (record { transfers = w.state.transfers; slots = w.state.slots; late = set w.state.late m n; log = w.state.log })
    w.store).number

-- the state in which the card serves the read of master 0
unfoldable pub serving : World
serving =
    let w = alone_with (read_by 0) in
    let slot : Slot = record { owner = 0; remaining = 0; serving = true; done = 0; waited = 0 } in
    let st : State =
    record { transfers = w.state.transfers; slots = set w.state.slots 0 slot; late = w.state.late; log = w.state.log } in
    record { state = st; store = w.store }

-- the access of a single of master 1 at address 4
abbrev pub access_other : Line
access_other = record { phase = 2; owner = 1; offset = 4; lanes = 0b1111; run = 1; place = 0 }

-- master 0 reads two words from the first address
abbrev pub burst_read : Request
burst_read = record { master = 0; write = false; address = 0; lanes = 0b1111; beats = 2; words = [] }

-- the board of the figures: bursts, waits of 3 for a read and of 1 for a write, and this latency
unfoldable pub figures_text : List ℕ → List ℕ
figures_text latency =
    bytes_of "master,4,4\nmaster,4,2\nslave,0,64,4,1,3,1,0," ++ latency ++ bytes_of "\nshare,0,0,3\nshare,1,0,2\n"

unfoldable pub figures_board : Board
figures_board = (read_text (figures_text (bytes_of "5"))).board

pub record LatencyRows : Type 0 where
  -- a read, alone: its access in the first clock, its finish two clocks later
  pub read : phases latency_board 4 (alone_with (read_by 0)) ≡ (2, 0) ∷ (0, 0) ∷ (0, 1) ∷ (0, 0) ∷ []
  -- between them the master holds its transfer, and the clocks to pass are counted down
  pub counted : (read_clocked 1).state.late ≡ 2 ∷ replicate 7 0
  pub holds : transfer_at (read_clocked 1).state 0 ≡ transfer_of (read_by 0)
  pub one_left : (read_clocked 2).state.late ≡ 1 ∷ replicate 7 0
  pub none_left : (read_clocked 3).state.late ≡ replicate 8 0
  pub released : transfer_at (read_clocked 3).state 0 ≡ no_transfer
  -- the card is free from the second clock on: another master's write is carried out and finished in it
  pub other : shown_from latency_board (beside_read (write_by 1)) 3 ≡ access 4 0b1111 1 0 ∷ access_other ∷ no_line ∷ []
  pub other_ends : phases latency_board 3 (beside_read (write_by 1)) ≡ (2, 0) ∷ (2, 2) ∷ (0, 1) ∷ []
  -- and so is its read, whose latency clocks pass beside those of the first
  pub both_late : phases latency_board 4 (beside_read (read_by 1)) ≡ (2, 0) ∷ (2, 0) ∷ (0, 1) ∷ (0, 2) ∷ []
  -- who is granted, both masters always posting: a read loses the other grants of its master's turn, a write does not
  pub turn_lost : grants latency_board (read_by 0) (write_by 1) 4 (latency_start latency_board) ≡ 0 ∷ 1 ∷ 1 ∷ 0 ∷ []
  pub turn_kept : grants latency_board (write_by 0) (write_by 1) 4 (latency_start latency_board) ≡ 0 ∷ 0 ∷ 0 ∷ 1 ∷ []
  -- a post of the master in its latency clocks (7.12), and behind its finish
  pub post_first : post_answers 1 ≡ 12
  pub post_second : post_answers 2 ≡ 12
  pub post_taken : post_answers 3 ≡ 0
  -- the bytes of the read are taken at its access; a later write to the same word changes the memory, and not them
  pub bytes : take 4 (read_clocked 1).store.buffer ≡ 5 ∷ 6 ∷ 7 ∷ 8 ∷ []
  pub bytes_stay : take 4 (clocked_from latency_board (beside_read (write_by 1)) 3).store.buffer ≡ 5 ∷ 6 ∷ 7 ∷ 8 ∷ []
  pub bytes_written : drop 4 (take 8 (clocked_from latency_board (beside_read (write_by 1)) 2).store.memory)
      ≡ 161 ∷ 162 ∷ 163 ∷ 164 ∷ []
  -- a write is finished at its last access, with no clock to pass
  pub write : phases latency_board 2 (alone_with (write_by 0)) ≡ (2, 1) ∷ (0, 0) ∷ []
  pub write_count : (clocked_from latency_board (alone_with (write_by 0)) 1).state.late ≡ replicate 8 0
  -- so is a read where the card has no latency
  pub zero_read : phases zero_latency 2 (after_post zero_latency (latency_start zero_latency) (read_by 0)) ≡ (2, 1) ∷ (0, 0) ∷ []
  -- the longest latency, one clock more (7.3), a number too few and a number too many (7.1)
  pub longest : (read_text (ending_in (bytes_of "0,63"))).number ≡ 0
  pub too_long : (read_text (ending_in (bytes_of "0,64"))).number ≡ 3
  pub seven_numbers : (read_text (ending_in (bytes_of "0"))).number ≡ 1
  pub nine_numbers : (read_text (ending_in (bytes_of "0,2,0"))).number ≡ 1
  -- the latency clocks that a state may have to pass (7.9): those of the card, for a read that is held
  pub all : late_answers (alone_with (read_by 0)) 0 2 ≡ 0
  pub some : late_answers (alone_with (read_by 0)) 0 1 ≡ 0
  pub too_many : late_answers (alone_with (read_by 0)) 0 3 ≡ 9
  -- none for a write, none where the card serves the master
  pub of_write : late_answers (alone_with (write_by 0)) 0 1 ≡ 9
  pub served : late_answers serving 0 0 ≡ 0
  pub of_served : late_answers serving 0 1 ≡ 9
  -- none for a master that holds no transfer, also where the board has no such master
  pub of_nobody : late_answers (alone_with (read_by 0)) 1 1 ≡ 9
  pub outside : late_answers (alone_with (read_by 0)) 7 1 ≡ 9
  -- a burst there: the latency clocks pass once, behind its last access
  pub burst : phases figures_board 13 (after_post figures_board (started figures_board) burst_read)
      ≡ (1, 0) ∷ (1, 0) ∷ (1, 0) ∷ (2, 0) ∷ (1, 0) ∷ (1, 0) ∷ (1, 0) ∷ (2, 0) ∷ (0, 0) ∷ (0, 0) ∷ (0, 0) ∷ (0, 0) ∷ (0, 1) ∷ []
  -- v, the access of a single that is not the last of a turn, and the turns by them (5.6)
  pub access_longest : longest_access (slave_at figures_board 0) ≡ 4
  pub access_single : single_access (slave_at figures_board 0) ≡ 2
  pub turn_first : turn_at figures_board 2 4 0 0 ≡ 20
  pub turn_second : turn_at figures_board 2 4 0 1 ≡ 10
  -- the table, and that of the same board without latency
  pub figures : printed (figures_text (bytes_of "5")) ≡ bytes_of "master,slave,wait,serve\n0,0,10,16\n1,0,20,8\n"
  pub zero_figures : printed (figures_text (bytes_of "0")) ≡ bytes_of "master,slave,wait,serve\n0,0,12,16\n1,0,24,8\n"
