-- What reset, post, clock and take answer, and what they leave in the lent bytes (rules 3.1 to 3.3, 4.1 to 4.14, 4.16 to 4.19, 8.1).
-- Assumes nothing.
use Rattle.std.specs.Prelude.{Bool, cond, not, ◌||◌, List, ℕ, ◌*◌, leb, eqb, length}
use Rattle.description_board.specs.declared.Master.{Master}
use Rattle.description_board.specs.declared.Board.{Board}
use Rattle.description_board.specs.Records.{master_at, memory_length}
use Rattle.description_board.specs.Items.{board_refusal}
use Rattle.fabric_transfer.specs.declared.Transfer.{Transfer}
use Rattle.fabric_transfer.specs.Bytes.{Store, buffer_length, posted_words}
use Rattle.fabric_state.specs.declared.Entry.{Entry}
use Rattle.fabric_state.specs.declared.State.{State}
use Rattle.fabric_calls.specs.declared.Changed.{Changed}
use Rattle.fabric_state.specs.declared.Clocked.{Clocked}
use Rattle.fabric_state.specs.Records.{no_state, no_entry, transfer_at, entry_at}
use Rattle.fabric_state.specs.Posting.{Request, transfer_of, transfer_refusal, with_transfer}
use Rattle.fabric_state.specs.Resetting.{state_at_reset}
use Rattle.fabric_state.specs.Soundness.{sound}
use Rattle.fabric_state.specs.Logging.{without_oldest, with_log}
use Rattle.fabric_state.specs.Clocking.{clocked_of, refused_clock}
use Rattle.fabric_state.specs.Carrying.{store_after}

-- rules 4.2, 8.1, 8.5: what `reset` answers; it is lent no memory and no buffer
unfoldable pub reset : Board → Changed
reset b = record { number = board_refusal b; state = cond (eqb (board_refusal b) 0) (state_at_reset b) no_state }

-- rule 7.18: so many bytes are not the words of the transfer
unfoldable pub wrong_words : Master → Transfer → ℕ → Bool
wrong_words ma t bytes = not (eqb bytes (cond t.write (t.beats * ma.width) 0))

-- rules 7.13 to 7.18, 8.4: what a transfer of master m with so many bytes of words is refused for, or 0
unfoldable pub request_refusal : Board → ℕ → Transfer → ℕ → ℕ
request_refusal b m t bytes =
    cond (not (eqb (transfer_refusal b m t) 0)) (transfer_refusal b m t) (cond (wrong_words (master_at b m) t bytes) 18 0)

-- rules 7.8, 7.9, 7.11, 7.12, 8.4, 8.5: what the post of that transfer is refused for, or 0, with a buffer of `room` bytes
unfoldable pub post_refusal_by : Board → State → ℕ → ℕ → Transfer → ℕ → ℕ
post_refusal_by b st room m t bytes =
    cond (not (eqb (board_refusal b) 0)) (board_refusal b)
    (cond (not (eqb room buffer_length)) 8
    (cond (not (sound b st)) 9
    (cond (leb b.master_count m) 11
    (cond (transfer_at st m).held 12
    (request_refusal b m t bytes)))))

-- rules 8.4, 8.5: what a post is refused for, or 0
unfoldable pub post_refusal : Board → State → List ℕ → Request → ℕ
post_refusal b st buffer q = post_refusal_by b st (length buffer) q.master (transfer_of q) (length q.words)

-- rules 3.3, 8.1: what `post` answers, and the state that it leaves
unfoldable pub post : Board → State → List ℕ → Request → Changed
post b st buffer q = record {
  number = post_refusal b st buffer q;
  state = cond (eqb (post_refusal b st buffer q) 0) (with_transfer st q.master (transfer_of q)) st;
}

-- rules 3.2, 8.1: the lent buffer after a post
unfoldable pub buffer_after_post : Board → State → List ℕ → Request → List ℕ
buffer_after_post b st buffer q =
    cond (eqb (post_refusal b st buffer q) 0) (posted_words q.master q.words buffer) buffer

-- rules 7.8, 7.9, 8.4, 8.5: what a clock is refused for, or 0
unfoldable pub clock_refusal : Board → State → Store → ℕ
clock_refusal b st d =
    cond (not (eqb (board_refusal b) 0)) (board_refusal b)
    (cond (not (eqb (length d.memory) (memory_length b)) || not (eqb (length d.buffer) buffer_length)) 8
    (cond (not (sound b st)) 9
    0))

-- rules 4.13, 8.1: what `clock` answers, and the state that it leaves
unfoldable pub clock : Board → State → Store → Clocked
clock b st d =
    cond (eqb (clock_refusal b st d) 0)
    (clocked_of b st)
    (refused_clock (clock_refusal b st d) st)

-- rules 4.8, 4.11, 4.17, 8.1: the lent memory and buffer after a clock
unfoldable pub store_after_clock : Board → State → Store → Store
store_after_clock b st d = cond (eqb (clock_refusal b st d) 0) (store_after b st d) d

-- rules 7.9, 7.22, 8.4, 8.5: what a take is refused for, or 0; it is lent no memory and no buffer
unfoldable pub take_refusal : Board → State → ℕ
take_refusal b st =
    cond (not (eqb (board_refusal b) 0)) (board_refusal b)
    (cond (not (sound b st)) 9
    (cond (eqb st.log.count 0) 22
    0))

-- rules 4.19, 8.1: what `take` answers: 0 and the entry, or a refusal's number and zeros
pub record Take : Type 0 where
  pub number : ℕ
  pub master : ℕ
  pub address : ℕ
  pub write : Bool

abbrev pub taken_of : ℕ → Entry → Take
taken_of n e = record { number = n; master = e.master; address = e.address; write = e.write }

unfoldable pub take_answer : Board → State → Take
take_answer b st =
    cond (eqb (take_refusal b st) 0) (taken_of 0 (entry_at st.log 0)) (taken_of (take_refusal b st) no_entry)

-- rules 4.19, 8.1: the state that `take` leaves
unfoldable pub state_after_take : Board → State → State
state_after_take b st = cond (eqb (take_refusal b st) 0) (with_log st (without_oldest st.log)) st

-- rule 6.1: state, memory and buffer, as a call is handed them
pub record World : Type 0 where
  pub state : State
  pub store : Store

-- rule 6.1: what a post leaves
unfoldable pub after_post : Board → World → Request → World
after_post b w q = record {
  state = (post b w.state w.store.buffer q).state;
  store = record { memory = w.store.memory; buffer = buffer_after_post b w.state w.store.buffer q };
}

-- rule 6.1: what a clock leaves
unfoldable pub after_clock : Board → World → World
after_clock b w = record { state = (clock b w.state w.store).state; store = store_after_clock b w.state w.store }
