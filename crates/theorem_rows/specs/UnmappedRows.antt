-- The examples of rule 9.19: unmapped transfers on a board with the line `default`, what a clock answers to them, and the log.
-- Assumes nothing.
use Rattle.std.specs.Prelude.{◌≡◌, Bool, true, false, List, [], ◌∷◌, ◌++◌, ℕ, suc, take, drop, set, replicate}
use Rattle.common_laws.specs.Bytes.{bytes_of}
use Rattle.common_laws.specs.Lists.{table}
use Rattle.description_board.specs.declared.Board.{Board}
use Rattle.description.specs.Reader.{read_text}
use Rattle.description.specs.Blame.{refused_at}
use Rattle.description.specs.Writer.{write_text}
use Rattle.fabric_transfer.specs.Accesses.{no_transfer}
use Rattle.fabric_transfer.specs.Bytes.{Store, buffer_length}
use Rattle.fabric_state.specs.declared.Entry.{Entry}
use Rattle.fabric_state.specs.declared.Log.{Log}
use Rattle.fabric_state.specs.declared.State.{State}
use Rattle.fabric_state.specs.declared.Line.{Line}
use Rattle.fabric_state.specs.declared.Clocked.{Clocked}
use Rattle.fabric_state.specs.Records.{no_line, no_entry, transfer_at}
use Rattle.fabric_state.specs.Posting.{Request}
use Rattle.fabric_state.specs.Logging.{with_log}
use Rattle.fabric_calls.specs.Calls.{World, reset, post, clock, take_answer, state_after_take, after_post, after_clock}
use Rattle.fabric_calls.specs.Running.{Run, run}
use Rattle.wait.specs.Calls.{quote_of}
use Rattle.wait_table.specs.Tables.{printed}
use Rattle.theorem_rows.specs.RowCalls.{clocked_from}
use Rattle.theorem_rows.specs.ConnectionRows.{lacks}
use Rattle.theorem_rows.specs.OrderRows.{charged}

-- three masters, and behind them these lines, from line 4 on
unfoldable pub behind_masters : List ℕ → List ℕ
behind_masters lines = bytes_of "master,4,2\nmaster,2,1\nmaster,4,2\n" ++ lines

-- two cards behind the masters, master 0 connected to both and master 1 to the first, and these lines, from line 9 on
unfoldable pub behind_shares : List ℕ → List ℕ
behind_shares lines =
    behind_masters
    (bytes_of "slave,0,16,4,2,0,0,0,0\nslave,64,16,4,1,0,0,0,1\nshare,0,0,1\nshare,0,1,1\nshare,1,0,1\n" ++ lines)

-- the board of rule 9.19, and the same without the line `default`
unfoldable pub default_text : List ℕ
default_text = behind_shares (bytes_of "share,2,0,1\ndefault\n")

unfoldable pub plain_text : List ℕ
plain_text = behind_shares (bytes_of "share,2,0,1\n")

unfoldable pub default_board : Board
default_board = (read_text default_text).board

unfoldable pub plain_board : Board
plain_board = (read_text plain_text).board

-- the table of both
unfoldable pub default_table : List ℕ
default_table = bytes_of "master,slave,wait,serve\n0,0,3,2\n0,1,0,2\n1,0,4,1\n2,0,3,2\n"

-- master m reads so many words from an address on, with these lanes, and with all of master 0 and of master 2
abbrev pub read_with : ℕ → ℕ → ℕ → ℕ → Request
read_with m address lanes beats =
    record { master = m; write = false; address = address; lanes = lanes; beats = beats; words = [] }

abbrev pub read_to : ℕ → ℕ → ℕ → Request
read_to m address beats = read_with m address 0b1111 beats

-- master 1 writes these bytes to an address, and the word a1 a2 (hex)
abbrev pub write_with : ℕ → List ℕ → Request
write_with address words =
    record { master = 1; write = true; address = address; lanes = 0b11; beats = 1; words = words }

abbrev pub write_to : ℕ → Request
write_to address = write_with address (161 ∷ 162 ∷ [])

-- memory bytes 1, 2, .. 32, and a buffer of nines
unfoldable pub bytes_lent : Store
bytes_lent = record { memory = table suc 32; buffer = replicate buffer_length 9 }

-- after a reset
unfoldable pub unmapped_start : Board → World
unmapped_start b = record { state = (reset b).state; store = bytes_lent }

-- what a post answers in a world, and after a reset
unfoldable pub answers_in : Board → World → Request → ℕ
answers_in b w q = (post b w.state w.store.buffer q).number

unfoldable pub answers_to : Request → ℕ
answers_to q = answers_in default_board (unmapped_start default_board) q

-- master 2 reads the last two words of the first card, alone
unfoldable pub card_alone : World
card_alone = after_post default_board (unmapped_start default_board) (read_to 2 8 2)

-- before the same clock master 1 writes to the first address of the second card, which it is not connected to, and then master 0
-- reads two words from 60 on, the second of them at that address
unfoldable pub unmapped_both : World
unmapped_both = after_post default_board (after_post default_board card_alone (write_to 64)) (read_to 0 60 2)

-- the first access of master 2
abbrev pub access_card : Line
access_card = record { phase = 2; owner = 2; offset = 8; lanes = 0b1111; run = 2; place = 0 }

-- the clock of a world
unfoldable pub clock_of : World → Clocked
clock_of w = clock default_board w.state w.store

-- what stands behind that clock, and behind the next
unfoldable pub clocked_once : World
clocked_once = clocked_from default_board unmapped_both 1

unfoldable pub clocked_twice : World
clocked_twice = clocked_from default_board unmapped_both 2

-- an entry of a read, and one of a write, which master 1 alone makes
abbrev pub read_entry : ℕ → ℕ → Entry
read_entry m address = record { master = m; address = address; write = false }

abbrev pub write_entry : ℕ → Entry
write_entry address = record { master = 1; address = address; write = true }

-- a log
abbrev pub log_by : ℕ → Bool → List Entry → Log
log_by count lost entries = record { count = count; lost = lost; entries = entries }

-- a clock behind unmapped posts of master 2, of masters 1 and 0, and of all three, the highest first
unfoldable pub clock_last : ℕ → World → World
clock_last a w = after_clock default_board (after_post default_board w (read_to 2 a 1))

unfoldable pub clock_two : ℕ → World → World
clock_two a w =
    after_clock default_board (after_post default_board (after_post default_board w (write_to a)) (read_to 0 a 1))

unfoldable pub clock_three : ℕ → World → World
clock_three a w = clock_two a (after_post default_board w (read_to 2 a 1))

-- the entries of two clocks with posts of all three, to 80 and to 84, and of a third with posts of masters 1 and 0 to 88
abbrev pub six_entries : List Entry
six_entries = read_entry 0 80 ∷ write_entry 80 ∷ read_entry 2 80 ∷ read_entry 0 84 ∷ write_entry 84 ∷ read_entry 2 84 ∷ []

abbrev pub eight_entries : List Entry
eight_entries = six_entries ++ (read_entry 0 88 ∷ write_entry 88 ∷ [])

-- the logs behind the second clock and behind the third
unfoldable pub six_log : Log
six_log = log_by 6 false (six_entries ++ (no_entry ∷ no_entry ∷ []))

unfoldable pub eight_log : Log
eight_log = log_by 8 false eight_entries

-- that of eight with an entry dropped behind it, what a take leaves of this, and a count of nine, which no clock leaves
unfoldable pub full_log : Log
full_log = log_by 8 true eight_entries

unfoldable pub taken_log : Log
taken_log = log_by 7 true (drop 1 eight_entries ++ (no_entry ∷ []))

unfoldable pub nine_log : Log
nine_log = log_by 9 true eight_entries

-- the world after a reset, with another log
unfoldable pub logged : Log → World
logged log = record { state = with_log (reset default_board).state log; store = bytes_lent }

-- the state in which master 0 holds an unmapped read, with so many latency clocks to pass
unfoldable pub holding : ℕ → State
holding n =
    let st = (after_post default_board (unmapped_start default_board) (read_to 0 60 2)).state in
    record { transfers = st.transfers; slots = st.slots; late = set st.late 0 n; log = st.log }

-- the numbers that a clock, a take and a post of master 0 to the first card answer in a state
unfoldable pub numbers_in : Board → State → List ℕ
numbers_in b st =
    (clock b st bytes_lent).number ∷ (take_answer b st).number ∷ answers_in b (record { state = st; store = bytes_lent }) (read_to 0 0 1)
    ∷ []

-- the number of a run of clocks, the clocks passed, and the mask
unfoldable pub ran_of : Run → List ℕ
ran_of r = r.number ∷ r.clocks ∷ r.mask ∷ []

pub record UnmappedRows : Type 0 where
  -- the text: `default` behind all other lines, and what the writer puts for it
  pub taken : refused_at default_text ≡ charged 0 0
  pub written : write_text default_board ≡ default_text
  -- a second one, and a share line or a slave line behind it (7.2)
  pub twice : refused_at (behind_shares (bytes_of "share,2,0,1\ndefault\ndefault\n")) ≡ charged 2 11
  pub share_behind : refused_at (behind_shares (bytes_of "default\nshare,2,0,1\n")) ≡ charged 2 10
  pub slave_behind : refused_at (behind_masters (bytes_of "slave,0,16,4,2,0,0,0,0\ndefault\nslave,64,16,4,1,0,0,0,1\n")) ≡ charged 2 6
  -- before the first slave line (7.2)
  pub before : refused_at (behind_masters (bytes_of "default\nslave,0,16,4,2,0,0,0,0\n")) ≡ charged 2 4
  -- with a number, and a malformed line behind it (7.1)
  pub number : refused_at (behind_shares (bytes_of "share,2,0,1\ndefault,1\n")) ≡ charged 1 10
  pub malformed : refused_at (behind_shares (bytes_of "share,2,0,1\ndefault\nshare,2,1\n")) ≡ charged 1 11
  -- it stands for no share line (7.20)
  pub lacking : refused_at (behind_shares (bytes_of "default\n")) ≡ lacks 2
  -- the figures are those of the board without it (1.11); a wait is still looked up for a connected pair alone (7.16)
  pub figures : printed default_text ≡ default_table
  pub plain_figures : printed plain_text ≡ default_table
  pub quoted : quote_of default_board 1 1 ≡ record { number = 16; wait = 0; serve = 0 }
  -- a post to an address that selects no card: refused without the line (7.16), taken with it (3.7)
  pub nobody : answers_in plain_board (unmapped_start plain_board) (read_to 0 16 1) ≡ 16
  pub answered : answers_to (read_to 0 16 1) ≡ 0
  -- beats, address, lanes and words are judged all the same (7.13 to 7.15, 7.18)
  pub no_beat : answers_to (read_to 0 16 0) ≡ 13
  pub too_many : answers_to (read_to 0 16 3) ≡ 13
  pub odd : answers_to (read_to 0 18 1) ≡ 14
  pub middle : answers_to (read_with 0 16 0b0110 1) ≡ 15
  pub few_words : answers_to (write_with 16 (161 ∷ [])) ≡ 18
  pub words_read : answers_to (record { master = 0; write = false; address = 16; lanes = 0b1111; beats = 1; words = 161 ∷ [] }) ≡ 18
  -- a card that the master is not connected to; a burst that reaches into a card
  pub unconnected : answers_to (write_to 64) ≡ 0
  pub reaching : answers_to (read_to 0 60 2) ≡ 0
  -- one that begins in a card, and passes its end (7.17)
  pub past_end : answers_to (read_to 0 12 2) ≡ 17
  -- another post while it is held (7.12)
  pub held : answers_in default_board unmapped_both (read_to 0 60 2) ≡ 12
  -- the next clock finishes both, with response 3; the master that is served by a card is not finished
  pub mask : (clock_of unmapped_both).mask ≡ 0b011
  pub responses : (clock_of unmapped_both).responses ≡ 3 ∷ 3 ∷ replicate 6 0
  -- the lines are those of the card's master alone
  pub beside : (clock_of unmapped_both).lines ≡ access_card ∷ replicate 15 no_line
  pub alone : (clock_of card_alone).lines ≡ access_card ∷ replicate 15 no_line
  -- the memory stays, and the words of the write in the buffer; the bytes of the read are zeros, and those behind them stay
  pub memory : clocked_once.store.memory ≡ table suc 32
  pub zeros : take 10 clocked_once.store.buffer ≡ 0 ∷ 0 ∷ 0 ∷ 0 ∷ 0 ∷ 0 ∷ 0 ∷ 0 ∷ 9 ∷ 9 ∷ []
  pub words : take 4 (drop 512 clocked_once.store.buffer) ≡ 161 ∷ 162 ∷ 9 ∷ 9 ∷ []
  -- both are in the log, by master number
  pub log : clocked_once.state.log ≡ log_by 2 false (read_entry 0 60 ∷ write_entry 64 ∷ replicate 6 no_entry)
  -- they hold nothing and can post again, the third master cannot yet
  pub released : transfer_at clocked_once.state 0 ≡ no_transfer
  pub again : answers_in default_board clocked_once (read_to 0 60 2) ≡ 0
  pub writes_again : answers_in default_board clocked_once (write_to 64) ≡ 0
  pub served : answers_in default_board clocked_once (read_to 2 8 2) ≡ 12
  -- that one is finished by the second clock, with response 0 and its bytes
  pub mask_card : (clock_of clocked_once).mask ≡ 0b100
  pub responses_card : (clock_of clocked_once).responses ≡ replicate 8 0
  pub bytes_card : take 9 (drop 1024 clocked_twice.store.buffer) ≡ 9 ∷ 10 ∷ 11 ∷ 12 ∷ 13 ∷ 14 ∷ 15 ∷ 16 ∷ 9 ∷ []
  -- six entries, then eight: none is lost, and all else of the state is as after a reset
  pub six : (clock_three 84 (clock_three 80 (unmapped_start default_board))).state ≡ (logged six_log).state
  pub full : (clock_two 88 (logged six_log)).state ≡ (logged eight_log).state
  -- the ninth is dropped, in a later clock or in the same
  pub dropped : (clock_last 92 (logged eight_log)).state ≡ (logged full_log).state
  pub dropped_third : (clock_three 88 (logged six_log)).state ≡ (logged full_log).state
  -- a take answers the oldest; the others move down, the last place is 0, and the lost mark stays
  pub oldest : take_answer default_board (logged full_log).state ≡ record { number = 0; master = 0; address = 80; write = false }
  pub moved : state_after_take default_board (logged full_log).state ≡ (logged taken_log).state
  pub next : take_answer default_board (logged taken_log).state ≡ record { number = 0; master = 1; address = 80; write = true }
  -- then there is space for one
  pub space : (clock_last 96 (logged taken_log)).state.log ≡ log_by 8 true (drop 1 eight_entries ++ (read_entry 2 96 ∷ []))
  -- nothing is taken from an empty log (7.22)
  pub empty : take_answer default_board (reset default_board).state ≡ record { number = 22; master = 0; address = 0; write = false }
  pub empty_stays : state_after_take default_board (reset default_board).state ≡ (reset default_board).state
  -- a reset leaves no entry and no lost mark
  pub cleared : (reset default_board).state.log ≡ log_by 0 false (replicate 8 no_entry)
  -- what a state may be (7.9): clock, take and post. An unmapped transfer that is held is none of its faults
  pub holds : numbers_in default_board (holding 0) ≡ 0 ∷ 22 ∷ 12 ∷ []
  -- with a latency clock to pass, or on the board without `default`, it is; 9 comes before 22 and 12
  pub late : numbers_in default_board (holding 1) ≡ 9 ∷ 9 ∷ 9 ∷ []
  pub plain : numbers_in plain_board (holding 0) ≡ 9 ∷ 9 ∷ 9 ∷ []
  -- a log of eight entries, and of nine
  pub eight : numbers_in default_board (logged full_log).state ≡ 0 ∷ 0 ∷ 0 ∷ []
  pub nine : numbers_in default_board (logged nine_log).state ≡ 9 ∷ 9 ∷ 9 ∷ []
  -- a refused take answers zeros, and a refused clock responses of zeros (8.1)
  pub nine_taken : take_answer default_board (logged nine_log).state
      ≡ record { number = 9; master = 0; address = 0; write = false }
  pub late_responses : (clock default_board (holding 1) bytes_lent).responses ≡ replicate 8 0
  -- a run of clocks ends at the clock that finishes them, and has its responses (4.15)
  pub ran : ran_of (run default_board unmapped_both 5) ≡ 0 ∷ 1 ∷ 0b011 ∷ []
  pub ran_responses : (run default_board unmapped_both 5).responses ≡ 3 ∷ 3 ∷ replicate 6 0
  -- with no clock passed they are zeros
  pub stood : ran_of (run default_board unmapped_both 0) ≡ 0 ∷ 0 ∷ 0 ∷ []
  pub stood_responses : (run default_board unmapped_both 0).responses ≡ replicate 8 0
