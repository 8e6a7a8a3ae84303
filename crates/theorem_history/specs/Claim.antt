-- What is claimed of every list of calls from a reset (rules 6.1 to 6.13): the list, the byte memory of its reads, the log that it gives,
-- the claim.
-- Assumes nothing.
use Rattle.std.specs.Prelude.{◌≡◌, Bool, true, false, cond, ◌&&◌, ◌||◌, List, [], ◌∷◌, ◌++◌, ◌⊎◌, ◌≢◌, ℕ, zero, suc, ◌+◌, ◌*◌, ◌≤◌, ◌<◌, eqb, ltb, length, get_or, take, drop, replicate}
use Rattle.common_laws.specs.Bits.{bit}
use Rattle.common_laws.specs.Lists.{some, table}
use Rattle.description_board.specs.declared.Board.{Board}
use Rattle.description_board.specs.Records.{master_at, slave_at, connected, start_of, memory_length}
use Rattle.fabric_transfer.specs.Accesses.{own_length, latency_of}
use Rattle.fabric_transfer.specs.Decoding.{target_of}
use Rattle.fabric_transfer.specs.Moving.{move}
use Rattle.fabric_transfer.specs.Bytes.{Store, buffer_length, part_of, memory_index, stores, byte_read}
use Rattle.fabric_state.specs.declared.Entry.{Entry}
use Rattle.fabric_state.specs.declared.Log.{Log}
use Rattle.fabric_state.specs.declared.State.{State}
use Rattle.fabric_state.specs.declared.Line.{Line}
use Rattle.fabric_state.specs.declared.Clocked.{Clocked}
use Rattle.fabric_state.specs.Records.{no_line, no_entry}
use Rattle.fabric_state.specs.Posting.{Request, transfer_of}
use Rattle.fabric_calls.specs.Calls.{World, reset, post, buffer_after_post, after_post, clock, store_after_clock}
use Rattle.fabric_calls.specs.Calls.{Take, taken_of, take_answer, state_after_take}
use Rattle.wait_turns.specs.Waits.{quoted_wait}
use Rattle.description.specs.Writer.{write_text}
use Rattle.wait.specs.Calls.{Quoted, quote_of}
use Rattle.theorem_history.specs.WaitCall.{WaitAnswered}

-- ---- the list of calls (rules 6.1 and 6.2)

-- a post, a clock or a take, with everything it was handed
pub data Call : Type 0 where
  posts : Board → State → List ℕ → Request → Call
  clocks : Board → State → Store → Call
  takes : Board → State → Call

-- the number it answers
unfoldable pub number_answered : Call → ℕ
number_answered (posts b st buffer q) = (post b st buffer q).number
number_answered (clocks b st d) = (clock b st d).number
number_answered (takes b st) = (take_answer b st).number

-- rule 6.1: it was handed the board b and what stood before it
unfoldable pub Handed : Board → World → Call → Type 0
Handed b w (posts b' st buffer q) = (b' ≡ b) × (st ≡ w.state) × (buffer ≡ w.store.buffer)
Handed b w (clocks b' st d) = (b' ≡ b) × (st ≡ w.state) × (d ≡ w.store)
Handed b w (takes b' st) = (b' ≡ b) × (st ≡ w.state)

-- what it leaves, where w stood
unfoldable pub leaves : World → Call → World
leaves w (posts b st buffer q) =
    record {
      state = (post b st buffer q).state;
      store = record { memory = w.store.memory; buffer = buffer_after_post b st buffer q };
    }
leaves w (clocks b st d) = record { state = (clock b st d).state; store = store_after_clock b st d }
leaves w (takes b st) = record { state = state_after_take b st; store = w.store }

-- rule 6.1: what the next call is handed; behind a refused call that is what stood before it
unfoldable pub next : World → Call → World
next w c = cond (eqb (number_answered c) 0) (leaves w c) w

-- what stands behind a list of calls
unfoldable pub after : World → List Call → World
after w [] = w
after w (c ∷ cs) = after (next w c) cs

-- rule 6.1: each call of the list was handed the board b and what stood before it, unless it was refused
unfoldable pub History : Board → World → List Call → Type 0
History b w [] = Unit {0}
History b w (c ∷ cs) = ((number_answered c ≢ 0) ⊎ Handed b w c) × History b (next w c) cs

-- rule 6.1: where a history begins, behind a reset that is not refused; memory and buffer may be any
pub record Start (b : Board) (w : World) : Type 0 where
  pub accepted : (reset b).number ≡ 0
  pub state : w.state ≡ (reset b).state

-- rules 2.1 and 2.2: memory and buffer have the lengths that are asked of them
pub record Lent (b : Board) (w : World) : Type 0 where
  pub memory : length w.store.memory ≡ memory_length b
  pub buffer : length w.store.buffer ≡ buffer_length

-- rule 6.2: what the clocks that count, those taken, answered, in order
unfoldable pub answers : List Call → List Clocked
answers [] = []
answers (posts b st buffer q ∷ cs) = answers cs
answers (clocks b st d ∷ cs) = cond (eqb (clock b st d).number 0) (clock b st d ∷ answers cs) (answers cs)
answers (takes b st ∷ cs) = answers cs

-- rule 6.2: the line shows a cycle, waiting or access, of master m
unfoldable pub owns : ℕ → Line → Bool
owns m l = (eqb l.phase 1 || eqb l.phase 2) && eqb l.owner m

-- some line of the answer does
unfoldable pub shows : ℕ → Clocked → Bool
shows m a = some (λ s. owns m (get_or a.lines s no_line)) 16

-- rule 6.2: the answer has master m among those finished
unfoldable pub names : ℕ → Clocked → Bool
names m a = bit a.mask m

-- rule 6.12: the answer's response to master m
unfoldable pub response_to : ℕ → Clocked → ℕ
response_to m a = get_or a.responses m 0

-- one of the clocks passes the test
unfoldable pub any : (Clocked → Bool) → List Clocked → Bool
any test [] = false
any test (a ∷ as') = test a || any test as'

-- rule 3.6: the slave that a request is for, or the count of slaves where there is none
unfoldable pub slave_for : Board → Request → ℕ
slave_for b q = target_of b q.master q.address

-- rule 3.7: the request is for a slave that its master is connected to
abbrev pub Mapped : Board → Request → Type 0
Mapped b q = slave_for b q < b.slave_count

-- rule 3.7: it is for none
abbrev pub Unmapped : Board → Request → Type 0
Unmapped b q = slave_for b q ≡ b.slave_count

-- the request is posted, and not refused, where w stands
unfoldable pub Accepted : Board → World → Request → Type 0
Accepted b w q = (post b w.state w.store.buffer q).number ≡ 0

-- rule 6.3: the wait w of the request's master at its slave, the same w in every part of the claim
unfoldable pub wait_for : Board → Request → ℕ
wait_for b q = quoted_wait b q.master (slave_for b q)

-- rule 5.4: how many clocks the request's transfer takes by itself
unfoldable pub length_of : Board → Request → ℕ
length_of b q = own_length (master_at b q.master) (slave_at b (slave_for b q)) (transfer_of q)

-- rule 4.16: how many clocks behind its last access it is finished
unfoldable pub late_for : Board → Request → ℕ
late_for b q = latency_of (slave_at b (slave_for b q)) (transfer_of q)

-- ---- the byte memory (rules 6.7 and 6.8)

-- the bytes; each master's last request, whether it still waits for its first cycle, and what its read gave
pub record Reference : Type 0 where
  pub bytes : List ℕ
  pub request : ℕ → Request
  pub waiting : ℕ → Bool
  pub given : ℕ → List ℕ

-- f, with x for m
abbrev pub update : {X : Type 0} → (ℕ → X) → ℕ → X → ℕ → X
update f m x k = cond (eqb k m) x (f k)

-- no request yet
abbrev pub no_request : Request
no_request = record { master = 0; write = false; address = 0; lanes = 0; beats = 0; words = [] }

-- rule 6.7: at the reset, with the memory's own bytes
unfoldable pub reference_at : List ℕ → Reference
reference_at memory = record {
  bytes = memory;
  request = λ m. no_request;
  waiting = λ m. false;
  given = λ m. [];
}

-- how many bytes the request's transfer has
unfoldable pub bytes_in : Board → Request → ℕ
bytes_in b q = q.beats * (master_at b q.master).width

-- rule 6.8: the bytes behind the step of a request for slave s: a write has stored its words' bytes of enabled lanes, each where
-- it lies in memory, a read nothing
unfoldable pub bytes_after : Board → ℕ → Request → List ℕ → List ℕ
bytes_after b s q bytes =
    let ma = master_at b q.master in
    let sl = slave_at b s in
    let t = transfer_of q in
    cond q.write
    (move (stores ma sl t) (λ i. get_or q.words i 0) (memory_index ma sl t (start_of b s)) 0 (bytes_in b q) bytes)
    bytes

-- rule 6.8: the bytes that a read's step gives, one behind another
unfoldable pub given : Board → ℕ → Request → List ℕ → List ℕ
given b s q bytes =
    table (byte_read (master_at b q.master) (slave_at b s) (transfer_of q) (start_of b s) bytes) (bytes_in b q)

-- rule 6.7: the step, whole, of the transfer of master m
unfoldable pub stepped : Board → ℕ → Reference → Reference
stepped b m r =
    let q = r.request m in
    record {
      bytes = bytes_after b (slave_for b q) q r.bytes;
      request = r.request;
      waiting = update r.waiting m false;
      given = update r.given m (given b (slave_for b q) q r.bytes);
    }

-- rule 6.7: what one line makes of it: the step of its owner's transfer, where this is that one's first cycle
unfoldable pub seen : Board → Line → Reference → Reference
seen b l r = cond ((eqb l.phase 1 || eqb l.phase 2) && r.waiting l.owner) (stepped b l.owner r) r

-- how often s is in the list
unfoldable pub times : ℕ → List ℕ → ℕ
times s [] = 0
times s (k ∷ ks) = cond (eqb k s) (times s ks + 1) (times s ks)

-- rule 6.7: an order in which the lines of one clock count: any that has each slave number, 0 to 15, once, and no other
pub record Order : Type 0 where
  pub slaves : List ℕ
  pub once : (s : ℕ) → times s slaves ≡ cond (ltb s 16) 1 0

-- the lines of one clock, taken in the order of these slaves
unfoldable pub seen_all : Board → List ℕ → List Line → Reference → Reference
seen_all b [] lines r = r
seen_all b (s ∷ ss) lines r = seen_all b ss lines (seen b (get_or lines s no_line) r)

-- rule 6.7: what it is told of a post that is taken
unfoldable pub fed_post : Request → Reference → Reference
fed_post q r = record {
  bytes = r.bytes;
  request = update r.request q.master q;
  waiting = update r.waiting q.master true;
  given = r.given;
}

-- rule 6.7: what it is told of a list of calls. Each clock has an order of its own: orders n is that of the clock which n calls
-- of the list follow
unfoldable pub fed : Board → (ℕ → Order) → Reference → List Call → Reference
fed b orders r [] = r
fed b orders r (posts b' st buffer q ∷ cs) =
    fed b orders (cond (eqb (post b' st buffer q).number 0) (fed_post q r) r) cs
fed b orders r (clocks b' st d ∷ cs) =
    fed b orders
    (cond (eqb (clock b' st d).number 0) (seen_all b (orders (length cs)).slaves (clock b' st d).lines r) r) cs
fed b orders r (takes b' st ∷ cs) = fed b orders r cs

-- ---- the log that the calls give (rule 6.13)

-- each master's last request, the entries that stand, the oldest first, and whether one was dropped
pub record Logged : Type 0 where
  pub request : ℕ → Request
  pub entries : List Entry
  pub lost : Bool

-- rule 6.13: at the reset
unfoldable pub logged_at : Logged
logged_at = record { request = λ m. no_request; entries = []; lost = false }

-- rule 6.13: one entry more where fewer than eight stand, else it is dropped
unfoldable pub log_entry : Entry → Logged → Logged
log_entry e k =
    cond (ltb (length k.entries) 8)
    (record { request = k.request; entries = k.entries ++ (e ∷ []); lost = k.lost })
    (record { request = k.request; entries = k.entries; lost = true })

-- rule 6.13: an entry for each response 3 to the first n masters, by master, with address and direction as it posted them last
unfoldable pub log_responses : List ℕ → ℕ → Logged → Logged
log_responses rs zero k = k
log_responses rs (suc n) k =
    let l = log_responses rs n k in
    let q = l.request n in
    cond (eqb (get_or rs n 0) 3) (log_entry (record { master = n; address = q.address; write = q.write }) l) l

-- rule 6.13: what a list of calls makes of it; the responses of a refused clock are 0
unfoldable pub log_calls : Logged → List Call → Logged
log_calls k [] = k
log_calls k (posts b st buffer q ∷ cs) =
    log_calls
    (cond (eqb (post b st buffer q).number 0)
    (record { request = update k.request q.master q; entries = k.entries; lost = k.lost })
    k)
    cs
log_calls k (clocks b st d ∷ cs) = log_calls (log_responses (clock b st d).responses 8 k) cs
log_calls k (takes b st ∷ cs) =
    log_calls
    (cond (eqb (take_answer b st).number 0)
    (record { request = k.request; entries = drop 1 k.entries; lost = k.lost })
    k)
    cs

-- rules 2.4, 6.13: the log of a state, with zeros behind the entries that stand
unfoldable pub log_of : Logged → Log
log_of k = record {
  count = length k.entries;
  lost = k.lost;
  entries = table (λ i. get_or k.entries i no_entry) 8;
}

-- rule 6.13: what a take answers: the oldest entry, or 22 where there is none
unfoldable pub oldest_of : List Entry → Take
oldest_of [] = taken_of 22 no_entry
oldest_of (e ∷ es) = taken_of 0 e

-- ---- the claim

-- rule 6.5: a history in which a transfer of master m at slave s has its first cycle at clock w + 1, with the w of the claim, and
-- none before: it waits exactly w
pub record Exact (b : Board) (start : World) (m s : ℕ) : Type 0 where
  pub before : List Call
  pub request : Request
  pub calls : List Call
  pub earlier : History b start before
  pub accepted : Accepted b (after start before) request
  pub master : request.master ≡ m
  pub slave : slave_for b request ≡ s
  pub later : History b (after_post b (after start before) request) calls
  pub clocks : length (answers calls) ≡ wait_for b request + 1
  pub waits : any (shows m) (take (wait_for b request) (answers calls)) ≡ false
  pub starts : any (shows m) (answers calls) ≡ true

-- what `quote_of` answers for the pair of a request
abbrev pub quote_for : Board → Request → Quoted
quote_for b q = quote_of b q.master (slave_for b q)

-- rule 6.6: what the wait calls answer for that pair: `quote_of` on the board, `fabric_wait` on the writer's text of it
pub record Figures (b : Board) (q : Request) : Type 0 where
  pub number : (quote_for b q).number ≡ 0
  pub wait : (quote_for b q).wait ≡ wait_for b q
  -- the serve is no shorter than this transfer
  pub serve : length_of b q ≤ (quote_for b q).serve
  pub text : (out : List ℕ) → 16 ≤ length out
      → WaitAnswered (write_text b) q.master (slave_for b q) (wait_for b q) (quote_for b q).serve out

-- rule 6.6: a transfer of master m at slave s, taken where w stands, that is exactly as long as the serve
pub record Longest (b : Board) (w : World) (m s : ℕ) : Type 0 where
  pub request : Request
  pub accepted : Accepted b w request
  pub master : request.master ≡ m
  pub slave : slave_for b request ≡ s
  pub lasts : length_of b request ≡ (quote_for b request).serve

-- rule 6.12: the clock where u stands, if it is taken, finishes the request's master with response 3, and leaves zeros for a read
pub record DecodeError (b : Board) (u : World) (q : Request) : Type 0 where
  pub finished : names q.master (clock b u.state u.store) ≡ true
  pub response : response_to q.master (clock b u.state u.store) ≡ 3
  pub zeros : q.write ≡ false
      → take (bytes_in b q) (drop (part_of q.master) (store_after_clock b u.state u.store).buffer) ≡ replicate (bytes_in b q) 0

-- Demand 3: the claim of rules 6.1 to 6.13, whole, about the board b. A run of clocks comes under it by rule 6.11 (ClockRuns).
pub record Demand3 (b : Board) : Type 0 where
  -- rule 6.3: the first cycle comes at clock w + 1 or before, where the history goes so far
  pub within : (w : World) (before : List Call) (q : Request) (calls : List Call) → Start b w → History b w before
      → Accepted b (after w before) q → Mapped b q → History b (after_post b (after w before) q) calls
      → wait_for b q + 1 ≤ length (answers calls)
      → any (shows q.master) (take (wait_for b q + 1) (answers calls)) ≡ true
  -- rule 6.4: likewise the finish, at clock w + own length + latency or before
  pub finished : (w : World) (before : List Call) (q : Request) (calls : List Call) → Start b w → History b w before
      → Accepted b (after w before) q → Mapped b q → History b (after_post b (after w before) q) calls
      → wait_for b q + length_of b q + late_for b q ≤ length (answers calls)
      → any (names q.master) (take (wait_for b q + length_of b q + late_for b q) (answers calls)) ≡ true
  -- rule 6.5: each connected pair has a transfer that waits exactly w
  pub exact : (w : World) (m s : ℕ) → Start b w → Lent b w → m < b.master_count → connected b m s ≡ true → Exact b w m s
  -- rule 6.6: the wait calls answer w, for every request to a slave that is accepted, wherever it is posted
  pub quoted : (w : World) (q : Request) → Accepted b w q → Mapped b q → Figures b q
  -- rule 6.6: each connected pair has a transfer that lasts exactly its serve
  pub longest : (w : World) (m s : ℕ) → Start b w → Lent b w → m < b.master_count → connected b m s ≡ true → Longest b w m s
  -- rule 6.9: a clock that finishes a read of a slave leaves, in the first bytes of its master's part, those that the read's step gave; with
  -- any orders in the clocks before, and any order, last, in this clock
  pub reads : (w : World) (calls : List Call) (orders : ℕ → Order) (last : Order) (m : ℕ) → Start b w → History b w calls
      → let u = after w calls in
      let a = clock b u.state u.store in
      let r = seen_all b last.slaves a.lines (fed b orders (reference_at w.store.memory) calls) in
      names m a ≡ true → (r.request m).write ≡ false → Mapped b (r.request m)
      → take (bytes_in b (r.request m)) (drop (part_of m) (store_after_clock b u.state u.store).buffer) ≡ r.given m
  -- rule 6.10: a call that is handed what the history left is refused for nothing of 2 to 9
  pub served : (w : World) (calls : List Call) (q : Request) → Start b w → Lent b w → History b w calls
      → let u = after w calls in
      ((clock b u.state u.store).number ≡ 0)
      × (((post b u.state u.store.buffer q).number ≡ 0) ⊎ (11 ≤ (post b u.state u.store.buffer q).number))
  -- rule 6.12: an unmapped post that is taken is finished by the first clock behind it, with response 3 and, of a read, zeros
  pub unmapped : (w : World) (before : List Call) (q : Request) (calls : List Call) → Start b w → History b w before
      → Accepted b (after w before) q → Unmapped b q → History b (after_post b (after w before) q) calls
      → answers calls ≡ []
      → let u = after (after_post b (after w before) q) calls in
      (clock b u.state u.store).number ≡ 0 → DecodeError b u q
  -- rule 6.12: the response to a master whose last request is for a slave is 0
  pub okay : (w : World) (calls : List Call) (m : ℕ) → Start b w → History b w calls
      → let u = after w calls in
      Mapped b ((log_calls logged_at calls).request m) → response_to m (clock b u.state u.store) ≡ 0
  -- rule 6.13: the log is what the calls give, and a take answers its oldest entry, or 22: nothing of 2 to 9 (rule 6.10)
  pub log : (w : World) (calls : List Call) → Start b w → History b w calls
      → (after w calls).state.log ≡ log_of (log_calls logged_at calls)
  pub taken : (w : World) (calls : List Call) → Start b w → History b w calls
      → take_answer b (after w calls).state ≡ oldest_of (log_calls logged_at calls).entries
