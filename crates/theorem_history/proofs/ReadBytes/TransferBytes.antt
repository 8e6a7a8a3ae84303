-- The accesses of one transfer at one slave, against its step on the byte memory, which is whole (rule 6.7): with the accesses
-- that are still to come carried out too, the slave's span is that of the byte memory, and a read has brought what its step gave.
-- Assumes nothing.
use mathlib.Core.Path.{◌≡◌, refl, ap, ◌∙◌, sym}
use mathlib.Core.Bool.{Bool, true, false, cond}
use mathlib.Core.List.{List}
use mathlib.Core.Logic.{⊎_elim, inl, inr, ◌≢◌}
use Prim.Native.Nat.{ℕ, ◌+◌, ◌-◌, ◌*◌, ◌≤◌, ◌<◌}
use native.Mathlib.Nat.{zero-add, add-zero}
use native.Mathlib.Omega.{arith}
use lib.ListN.{length, get_or}
use borrow.Author.Tests.{eq-eqb}
use Rattle.common_laws.specs.Lists.{table}
use Rattle.common_laws.proofs.FrontLaws.{table_same}
use Rattle.description_board.specs.declared.Board.{Board}
use Rattle.description_board.specs.Records.{master_at, slave_at, start_of, memory_length}
use Rattle.fabric_transfer.specs.declared.Transfer.{Transfer}
use Rattle.fabric_transfer.specs.Alignment.{ratio, access_bytes, has_lane}
use Rattle.fabric_transfer.specs.Accesses.{first_byte, accesses, access_number}
use Rattle.fabric_transfer.specs.Decoding.{target_of}
use Rattle.fabric_transfer.specs.Code.Numbers.{Posted, first_access}
use Rattle.fabric_transfer.proofs.NumberLaws.{number_is, numbers_fit, front_left_out, end_left_out}
use Rattle.fabric_transfer.proofs.AccessLaws.{first_zero, first_next, first_add, first_le, first_all}
use Rattle.fabric_transfer.specs.Moving.{bytes_from, move}
use Rattle.fabric_transfer.specs.Bytes.{Store, buffer_length, part_of, memory_index, stores, byte_read, written, fetched}
use Rattle.fabric_transfer.specs.Bytes.{carried_bytes, carried_access}
use Rattle.fabric_transfer.proofs.MoveLaws.{length_move}
use Rattle.fabric_transfer.proofs.Ranges.{Agree, agree_refl, agree_sym, agree_trans, Apart, Outside, move_apart, move_agree}
use Rattle.fabric_transfer.proofs.Ranges.{front, front_at, front_same, front_moved}
use Rattle.fabric_transfer.proofs.StoreLaws.{length_memory, length_buffer, stores_lane, read_same, Alike, carried_write}
use Rattle.fabric_transfer.proofs.StoreLaws.{carried_read, carried_join, carried_memory, carried_buffer}
use Rattle.fabric_transfer.proofs.StoreLaws.{carried_alike, parts_apart}
use Rattle.fabric_transfer.proofs.LeftOut.{left_out_all}
use Rattle.fabric_state.specs.Posting.{transfer_of}
use Rattle.theorem_history.specs.Claim.{Reference, slave_for, bytes_in, bytes_after, given, stepped}

-- the bytes of the transfer t of master m
abbrev pub bytes_held : Board → ℕ → Transfer → ℕ
bytes_held b m t = t.beats * (master_at b m).width

-- the index in memory of its byte i, at slave k (rule 6.8), and of the end of that slave's span
abbrev index_at : Board → ℕ → ℕ → Transfer → ℕ → ℕ
index_at b k m t i = memory_index (master_at b m) (slave_at b k) t (start_of b k) i

abbrev pub end_of : Board → ℕ → ℕ
end_of b k = start_of b k + (slave_at b k).span

-- its accesses there, and the one that is carried out behind n others
abbrev pub accesses_at : Board → ℕ → ℕ → Transfer → ℕ
accesses_at b k m t = accesses (master_at b m) (slave_at b k) t

abbrev pub access_at : Board → ℕ → ℕ → Transfer → ℕ → Store → Store
access_at b k m t n d =
    carried_access (master_at b m) (slave_at b k) t m (start_of b k) (access_number (master_at b m) (slave_at b k) t n) d

-- which keeps the lengths of memory and buffer
pub access_lengths : (b : Board) (k m : ℕ) (t : Transfer) (n : ℕ) (d : Store)
    → let e = access_at b k m t n d in
    (length e.memory ≡ length d.memory) × (length e.buffer ≡ length d.buffer)
access_lengths b k m t n d = (
  length_memory (master_at b m) (slave_at b k) t m (start_of b k) _ d,
  length_buffer (master_at b m) (slave_at b k) t m (start_of b k) _ d,
)

-- the transfer of master m lies in the span of slave k and in the master's part of the buffer
pub record Lies (b : Board) (m k : ℕ) (t : Transfer) : Type 0 where
  pub known : m < 8
  pub few : bytes_held b m t ≤ 512
  pub placed : (i : ℕ) → i < bytes_held b m t → has_lane (master_at b m) (slave_at b k) i ≡ true
      → (start_of b k ≤ index_at b k m t i) × (index_at b k m t i < end_of b k)
  pub inside : end_of b k ≤ memory_length b
  pub posted : Posted (master_at b m) (slave_at b k) t

-- the transfer t is what master m asked for last, and the words of that request are at the front of its part
pub record Asked (b : Board) (d : Store) (r : Reference) (m : ℕ) (t : Transfer) : Type 0 where
  pub master : (r.request m).master ≡ m
  pub transfer : transfer_of (r.request m) ≡ t
  pub many : length (r.request m).words ≡ cond t.write (bytes_held b m t) 0
  pub there : front (length (r.request m).words) (part_of m) d.buffer ≡ (r.request m).words

-- what is left of the transfer behind its first n accesses, carried out: their bytes and those behind them
unfoldable pub rest : Board → ℕ → ℕ → Transfer → ℕ → Store → Store
rest b k m t n d =
    let first = first_byte (master_at b m) (slave_at b k) (first_access (master_at b m) (slave_at b k) t + n) in
    carried_bytes (master_at b m) (slave_at b k) t m (start_of b k) first (bytes_held b m t - first) d

-- slave k has carried out n accesses of the transfer t of master m: with the rest carried out, the slave's span of the
-- memory is that of the byte memory, and the front of the master's part is what a read gave
pub record Served (b : Board) (d : Store) (r : Reference) (k m : ℕ) (t : Transfer) (n : ℕ) : Type 0 where
  pub done : n ≤ accesses_at b k m t
  pub range : Agree (start_of b k) (end_of b k) (rest b k m t n d).memory r.bytes
  pub reads : t.write ≡ false → front (bytes_held b m t) (part_of m) (rest b k m t n d).buffer ≡ r.given m

-- and when all are carried out
pub record Done (b : Board) (d : Store) (r : Reference) (k m : ℕ) (t : Transfer) : Type 0 where
  pub range : Agree (start_of b k) (end_of b k) d.memory r.bytes
  pub reads : t.write ≡ false → front (bytes_held b m t) (part_of m) d.buffer ≡ r.given m

module _ (b : Board) (k m : ℕ) (t : Transfer) (lies : Lies b m k t) where
  -- its bytes: how many, the index of each in memory, which of them a write stores, and what a read brings
  abbrev size : ℕ
  size = bytes_held b m t

  abbrev index : ℕ → ℕ
  index = memory_index (master_at b m) (slave_at b k) t (start_of b k)

  abbrev on : ℕ → Bool
  on = stores (master_at b m) (slave_at b k) t

  abbrev brought : List ℕ → ℕ → ℕ
  brought memory = byte_read (master_at b m) (slave_at b k) t (start_of b k) memory

  -- so many of them from one on, moved
  abbrev moved : ℕ → ℕ → Store → Store
  moved from n d = carried_bytes (master_at b m) (slave_at b k) t m (start_of b k) from n d

  -- the first byte of the access behind n others, and the bytes of an access
  abbrev base : ℕ
  base = first_access (master_at b m) (slave_at b k) t

  abbrev first : ℕ → ℕ
  first n = first_byte (master_at b m) (slave_at b k) (base + n)

  abbrev each : ℕ
  each = access_bytes (master_at b m) (slave_at b k)

  -- the accesses of all its beats, those that are left out too
  abbrev total : ℕ
  total = t.beats * ratio (master_at b m) (slave_at b k)

  -- ---- one access more, and the last

  whole : first_byte (master_at b m) (slave_at b k) total ≡ size
  whole = first_all (master_at b m) (slave_at b k) lies.posted.wide.master lies.posted.wide.slave t

  fit : base + accesses_at b k m t ≤ total
  fit = numbers_fit (master_at b m) (slave_at b k) t lies.posted

  first_few : (n : ℕ) → n ≤ accesses_at b k m t → first n ≤ size
  first_few n h = rw (← whole) (first_le (master_at b m) (slave_at b k) (base + n) total (omega (arith, fit)))

  next : (n : ℕ) → first (n + 1) ≡ first n + each
  next n =
      let e : base + (n + 1) ≡ base + n + 1 = omega arith in
      rw e (first_next (master_at b m) (slave_at b k) (base + n))

  access_few : (n : ℕ) → n < accesses_at b k m t → first n + each ≤ size
  access_few n h = omega (arith, next n, first_few (n + 1) (omega arith))

  -- its bytes, moved
  access_is : (n : ℕ) (d : Store) → n < accesses_at b k m t → access_at b k m t n d ≡ moved (first n) each d
  unfolding carried_access
  access_is n d h = rw (number_is (master_at b m) (slave_at b k) t lies.posted n h)

  rest_next : (n : ℕ) (d : Store) → n < accesses_at b k m t
      → rest b k m t (n + 1) (access_at b k m t n d) ≡ rest b k m t n d
  unfolding rest
  rest_next n d h =
      let l = access_few n h in
      let e : each + (size - (first n + each)) ≡ size - first n = omega arith in
      rw (access_is n d h, next n)
      (carried_join (master_at b m) (slave_at b k) t m (start_of b k) (first n) each (size - (first n + each)) d ∙ rw e)

  -- behind the last access, and in front of the first, there is nothing to move
  rest_none : (n : ℕ) (d : Store) → n ≡ accesses_at b k m t → rest b k m t n d ≡ d
  unfolding rest
  rest_none n d e =
      let last = base + accesses_at b k m t in
      let left = total - last in
      let all : last + left ≡ total = omega (arith, fit) in
      let end : first_byte (master_at b m) (slave_at b k) (last + left) ≡ size
      = ap (λ (x : ℕ). first_byte (master_at b m) (slave_at b k) x) all ∙ whole in
      let behind : size - first (accesses_at b k m t) ≡ left * each
      = omega (arith, first_add (master_at b m) (slave_at b k) last left, end) in
      rw (e, behind)
      (left_out_all (master_at b m) (slave_at b k) t lies.posted.wide m (start_of b k) last left
      (λ i p q. end_left_out (master_at b m) (slave_at b k) t lies.posted i p (omega arith)) d)

  rest_whole : (d : Store) → rest b k m t 0 d ≡ moved 0 size d
  unfolding rest
  rest_whole d =
      let start : first 0 ≡ base * each
      = rw add-zero (unfold first_byte in refl) in
      let l = first_few 0 (omega arith) in
      let e : base * each + (size - base * each) ≡ size = omega arith in
      let front : moved 0 (base * each) d ≡ d
      = ap (λ (x : ℕ). moved x (base * each) d) (sym (first_zero (master_at b m) (slave_at b k)))
      ∙ (left_out_all (master_at b m) (slave_at b k) t lies.posted.wide m (start_of b k) 0 base
      (λ i p q. front_left_out (master_at b m) (slave_at b k) t lies.posted i (omega arith)) d) in
      rw start
      (rw (zero-add, front, e) at
      (carried_join (master_at b m) (slave_at b k) t m (start_of b k) 0 (base * each) (size - base * each) d))

  pub served_next : (n : ℕ) (d : Store) (r : Reference) → n < accesses_at b k m t → Served b d r k m t n
      → Served b (access_at b k m t n d) r k m t (n + 1)
  served_next n d r h s = record {
    done = omega arith;
    range = rw (rest_next n d h) s.range;
    reads = λ e. rw (rest_next n d h) (s.reads e);
  }

  pub served_ends : (n : ℕ) (d : Store) (r : Reference) → n ≡ accesses_at b k m t → Served b d r k m t n → Done b d r k m t
  served_ends n d r e s =
      record { range = rw (rest_none n d e) at s.range; reads = λ f. rw (rest_none n d e) at (s.reads f) }

  -- what lies apart from the slave's span lies apart from the transfer's bytes
  apart_from : (lo hi i : ℕ) → i < size → has_lane (master_at b m) (slave_at b k) i ≡ true → Apart (start_of b k) (end_of b k) lo hi
      → Outside (index i) lo hi
  apart_from lo hi i h l p =
      let x = lies.placed i h l in
      ⊎_elim (λ (u : end_of b k ≤ lo). inl (omega arith)) (λ (u : hi ≤ start_of b k). inr (omega arith)) p

  -- an access changes neither another slave's span nor another master's part
  pub access_memory : (n : ℕ) (d : Store) → n < accesses_at b k m t → (lo hi : ℕ) → Apart (start_of b k) (end_of b k) lo hi
      → Agree lo hi (access_at b k m t n d).memory d.memory
  access_memory n d h lo hi p =
      rw (access_is n d h)
      (carried_memory (master_at b m) (slave_at b k) t m (start_of b k) (first n) each lo hi d
      (λ i x y l. apart_from lo hi i (omega (arith, access_few n h)) l p))

  pub access_buffer : (n : ℕ) (d : Store) → n < accesses_at b k m t → (j : ℕ) → m ≢ j
      → Agree (part_of j) (part_of j + 512) (access_at b k m t n d).buffer d.buffer
  access_buffer n d h j q =
      rw (access_is n d h)
      (carried_buffer (master_at b m) (slave_at b k) t m (start_of b k) (first n) each (part_of j) (part_of j + 512) d
      (parts_apart m j (first n) each q (omega (arith, access_few n h, lies.few))))

  -- nor its own master's words
  pub asked_accessed : (n : ℕ) (d : Store) (r : Reference) → Asked b d r m t → Asked b (access_at b k m t n d) r m t
  unfolding carried_access written
  asked_accessed n d r h =
      record { master = h.master; transfer = h.transfer; many = h.many; there = go t.write refl }
    where
      go : (w : Bool) → t.write ≡ w
          → front (length (r.request m).words) (part_of m) (access_at b k m t n d).buffer ≡ (r.request m).words
      go true e = rw (carried_write (master_at b m) (slave_at b k) t m (start_of b k) _ each d e) h.there
      go false e =
          let z : length (r.request m).words ≡ 0 = h.many ∙ rw e in
          rw z (rw z at h.there)

  -- ---- what happens elsewhere does not matter

  pub served_kept : (n : ℕ) (d e : Store) (r s : Reference)
      → Alike (start_of b k) (end_of b k) (part_of m) (part_of m + 512) d e
      → Agree (start_of b k) (end_of b k) r.bytes s.bytes → r.given m ≡ s.given m
      → Served b d r k m t n → Served b e s k m t n
  unfolding rest
  served_kept n d e r s h y g v =
      let l = first_few n v.done in
      let x = lies.few in
      let z =
      carried_alike (master_at b m) (slave_at b k) t m (start_of b k) (first n) (size - first n) (start_of b k) (end_of b k)
      (part_of m) (part_of m + 512) (λ i p q. lies.placed i (omega arith)) (omega arith) (omega arith) h in
      record {
        done = v.done;
        range = agree_trans (agree_sym z.memory) (agree_trans v.range y);
        reads = λ w.
            sym (front_same size (part_of m) (part_of m) (part_of m + 512) z.buffer_length z.buffer (omega arith) (omega arith))
            ∙ v.reads w
            ∙ g;
      }

  -- ---- the first cycle: the whole step is taken on the byte memory

  -- what the step leaves of the byte memory
  abbrev step_whole : List ℕ → List ℕ → List ℕ
  step_whole words bytes = cond t.write (move on (λ i. get_or words i 0) index 0 size bytes) bytes

  whole_step : (d : Store) (words bytes : List ℕ) → length d.memory ≡ length bytes
      → Agree (start_of b k) (end_of b k) d.memory bytes
      → (t.write ≡ true → (i : ℕ) → i < size → get_or d.buffer (part_of m + i) 0 ≡ get_or words i 0)
      → Agree (start_of b k) (end_of b k) (moved 0 size d).memory (step_whole words bytes)
  unfolding carried_bytes written fetched
  whole_step d words bytes l g h = go t.write h
    where
      go : (w : Bool) → (w ≡ true → (i : ℕ) → i < size → get_or d.buffer (part_of m + i) 0 ≡ get_or words i 0)
          → Agree (start_of b k) (end_of b k)
          (cond w (written (master_at b m) (slave_at b k) t m (start_of b k) 0 size d)
          (fetched (master_at b m) (slave_at b k) t m (start_of b k) 0 size d)).memory
          (cond w (move on (λ i. get_or words i 0) index 0 size bytes) bytes)
      go true h =
          move_agree on (bytes_from d.buffer (part_of m)) (λ i. get_or words i 0) index 0 size (start_of b k) (end_of b k) l g
          (λ i x y. h refl i (omega arith))
      go false h = g

  whole_length : (words bytes : List ℕ) → length (step_whole words bytes) ≡ length bytes
  whole_length words bytes = go t.write
    where
      go : (w : Bool) → length (cond w (move on (λ i. get_or words i 0) index 0 size bytes) bytes) ≡ length bytes
      go true = length_move on (λ i. get_or words i 0) index 0 size bytes
      go false = refl

  whole_apart : (lo hi : ℕ) → Apart (start_of b k) (end_of b k) lo hi → (words bytes : List ℕ)
      → Agree lo hi (step_whole words bytes) bytes
  whole_apart lo hi h words bytes = go t.write
    where
      go : (w : Bool) → Agree lo hi (cond w (move on (λ i. get_or words i 0) index 0 size bytes) bytes) bytes
      go true =
          move_apart on (λ i. get_or words i 0) index 0 size lo hi bytes
          (λ i p q l. apart_from lo hi i (omega arith) (stores_lane (master_at b m) (slave_at b k) t i l) h)
      go false = agree_refl lo hi bytes

  whole_front : (d : Store) → length d.buffer ≡ buffer_length → t.write ≡ false
      → front size (part_of m) (moved 0 size d).buffer ≡ table (brought d.memory) size
  unfolding fetched
  whole_front d f e =
      let x = lies.few in
      let w = lies.known in
      rw (carried_read (master_at b m) (slave_at b k) t m (start_of b k) 0 size d e)
      (front_moved (brought d.memory) (part_of m) size d.buffer (omega arith))

  -- a read brings the same from memories that agree on the slave's span
  brought_same : (d e : List ℕ) → Agree (start_of b k) (end_of b k) d e → table (brought d) size ≡ table (brought e) size
  brought_same d e g =
      table_same (brought d) (brought e) size
      (λ i h.
      read_same (master_at b m) (slave_at b k) t (start_of b k) d e i
      (λ l. let x = lies.placed i h l in g.same (index i) x.0 x.1))

  module _ (d : Store) (r : Reference) (asked : Asked b d r m t) (target : target_of b m t.address ≡ k) where
    pub bytes_in_lem : bytes_in b (r.request m) ≡ size
    unfolding bytes_in
    bytes_in_lem = λ i. (asked.transfer i).beats * (master_at b (asked.master i)).width

    for_slave : slave_for b (r.request m) ≡ k
    unfolding slave_for
    for_slave =
        let e : slave_for b (r.request m) ≡ target_of b m t.address =
        λ i. target_of b (asked.master i) (asked.transfer i).address in
        e ∙ target

    -- what the request's step leaves, and gives
    abbrev bytes_then : List ℕ
    bytes_then = bytes_after b (slave_for b (r.request m)) (r.request m) r.bytes

    step_bytes : bytes_then ≡ step_whole (r.request m).words r.bytes
    unfolding bytes_after
    step_bytes =
        rw (bytes_in_lem, for_slave)
        (λ i.
        let ma = master_at b (asked.master i) in
        let u = asked.transfer i in
        cond u.write
        (move (stores ma (slave_at b k) u) (λ j. get_or (r.request m).words j 0) (memory_index ma (slave_at b k) u (start_of b k)) 0
        size r.bytes)
        r.bytes)

    pub step_length : length bytes_then ≡ length r.bytes
    step_length = rw step_bytes (whole_length (r.request m).words r.bytes)

    pub step_apart : (lo hi : ℕ) → Apart (start_of b k) (end_of b k) lo hi → Agree lo hi bytes_then r.bytes
    step_apart lo hi h = rw step_bytes (whole_apart lo hi h (r.request m).words r.bytes)

    step_given : given b (slave_for b (r.request m)) (r.request m) r.bytes ≡ table (brought r.bytes) size
    unfolding given
    step_given =
        rw (bytes_in_lem, for_slave)
        (λ i.
        table (byte_read (master_at b (asked.master i)) (slave_at b k) (asked.transfer i) (start_of b k) r.bytes) size)

    words_there : t.write ≡ true → (i : ℕ) → i < size
        → get_or d.buffer (part_of m + i) 0 ≡ get_or (r.request m).words i 0
    words_there e i h =
        let n : length (r.request m).words ≡ size = asked.many ∙ rw e in
        sym (front_at (length (r.request m).words) (part_of m) d.buffer i (omega arith)) ∙ rw asked.there

    pub served_begins : length d.memory ≡ memory_length b → length d.buffer ≡ buffer_length
        → length r.bytes ≡ memory_length b → Agree (start_of b k) (end_of b k) d.memory r.bytes
        → Served b d (stepped b m r) k m t 0
    unfolding stepped
    served_begins l f n g = record {
      done = omega arith;
      range = rw (rest_whole, step_bytes)
          (whole_step d (r.request m).words r.bytes (l ∙ sym n) g words_there);
      reads = λ e.
          rw (rest_whole, eq-eqb m m refl, step_given)
          (whole_front d f e ∙ brought_same d.memory r.bytes g);
    }
