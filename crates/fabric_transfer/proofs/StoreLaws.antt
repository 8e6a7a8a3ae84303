-- What a post and the accesses of a transfer do to the memory and the buffer.
-- Assumes nothing.
use mathlib.Core.Path.{◌≡◌, refl, sym, ◌∙◌}
use mathlib.Core.Bool.{Bool, true, false, cond}
use mathlib.Core.List.{List}
use mathlib.Core.Logic.{⊎_elim, inl, inr, ◌≢◌}
use Prim.Native.Nat.{ℕ, ◌+◌, ◌%◌, ◌≤◌, ◌<◌}
use native.Mathlib.Omega.{arith}
use lib.ListN.{length, get_or, replicate, length-replicate}
use Rattle.common_laws.specs.Bits.{bit}
use Rattle.common_laws.proofs.Tests.{both}
use Rattle.common_laws.proofs.TableLaws.{get_or_replicate_all}
use Rattle.common_laws.proofs.FillLaws.{table_is}
use Rattle.description_board.specs.declared.Master.{Master}
use Rattle.description_board.specs.Records.{Slave}
use Rattle.fabric_transfer.specs.declared.Transfer.{Transfer}
use Rattle.fabric_transfer.specs.Alignment.{has_lane}
use Rattle.fabric_transfer.specs.Moving.{all, bytes_from, index_from, move}
use Rattle.fabric_transfer.specs.Bytes.{Store, part_of, posted_words, cleared_words, memory_index, stores, byte_read}
use Rattle.fabric_transfer.specs.Bytes.{written, fetched, carried_bytes, carried_access}
use Rattle.fabric_transfer.proofs.MoveLaws.{length_move, move_join, less_or}
use Rattle.fabric_transfer.proofs.Ranges.{Agree, agree_refl, Apart, Outside, move_apart, move_agree, front, front_moved}

-- ---- a post

pub length_posted : (m : ℕ) (words buffer : List ℕ) → length (posted_words m words buffer) ≡ length buffer
unfolding posted_words
length_posted m words buffer = length_move all (λ i. get_or words i 0) (index_from (part_of m)) 0 (length words) buffer

-- ---- zeros at the front of a part

pub length_cleared : (m n : ℕ) (buffer : List ℕ) → length (cleared_words m n buffer) ≡ length buffer
unfolding cleared_words
length_cleared m n buffer = length_move all (λ i. 0) (index_from (part_of m)) 0 n buffer

pub cleared_front : (m n : ℕ) (buffer : List ℕ) → part_of m + n ≤ length buffer
    → front n (part_of m) (cleared_words m n buffer) ≡ replicate n 0
unfolding cleared_words
cleared_front m n buffer h =
    front_moved (λ i. 0) (part_of m) n buffer h
    ∙ sym (table_is (λ i. 0) n 0 (replicate n 0) (length-replicate n 0) (λ k l. get_or_replicate_all n k 0))

-- ---- bytes of a transfer

-- a byte is stored only where the slave has a lane for it
pub stores_lane : (ma : Master) (sl : Slave) (t : Transfer) (i : ℕ) → stores ma sl t i ≡ true → has_lane ma sl i ≡ true
unfolding stores
stores_lane ma sl t i e = (both (bit t.lanes (i % ma.width)) (has_lane ma sl i) e).1

-- what is read counts only where the slave has a lane
pub read_same : (ma : Master) (sl : Slave) (t : Transfer) (start : ℕ) (d e : List ℕ) (i : ℕ)
    → (has_lane ma sl i ≡ true → get_or d (memory_index ma sl t start i) 0 ≡ get_or e (memory_index ma sl t start i) 0)
    → byte_read ma sl t start d i ≡ byte_read ma sl t start e i
unfolding byte_read
read_same ma sl t start d e i h = go (has_lane ma sl i) h
  where
    go : (c : Bool) → (c ≡ true → get_or d (memory_index ma sl t start i) 0 ≡ get_or e (memory_index ma sl t start i) 0)
        → cond c (get_or d (memory_index ma sl t start i) 0) 0 ≡ cond c (get_or e (memory_index ma sl t start i) 0) 0
    go true h = h refl
    go false h = refl

-- the stores have their lengths in common, and agree from lo to hi in memory and from lo' to hi' in the buffer
pub record Alike (lo hi lo' hi' : ℕ) (d e : Store) : Type 0 where
  pub memory_length : length d.memory ≡ length e.memory
  pub buffer_length : length d.buffer ≡ length e.buffer
  pub memory : Agree lo hi d.memory e.memory
  pub buffer : Agree lo' hi' d.buffer e.buffer

module _ (ma : Master) (sl : Slave) (t : Transfer) (m start : ℕ) where
  -- by the transfer's direction
  module _ (first n : ℕ) (d : Store) where
    pub carried_write : t.write ≡ true → carried_bytes ma sl t m start first n d ≡ written ma sl t m start first n d
    unfolding carried_bytes
    carried_write e = rw e

    pub carried_read : t.write ≡ false → carried_bytes ma sl t m start first n d ≡ fetched ma sl t m start first n d
    unfolding carried_bytes
    carried_read e = rw e

    pub carried_memory_length : length (carried_bytes ma sl t m start first n d).memory ≡ length d.memory
    unfolding carried_bytes written fetched
    carried_memory_length = go t.write
      where
        go : (w : Bool) → length (cond w (written ma sl t m start first n d) (fetched ma sl t m start first n d)).memory
            ≡ length d.memory
        go true = length_move _ _ _ first n d.memory
        go false = refl

    pub carried_buffer_length : length (carried_bytes ma sl t m start first n d).buffer ≡ length d.buffer
    unfolding carried_bytes written fetched
    carried_buffer_length = go t.write
      where
        go : (w : Bool) → length (cond w (written ma sl t m start first n d) (fetched ma sl t m start first n d)).buffer
            ≡ length d.buffer
        go true = refl
        go false = length_move _ _ _ first n d.buffer

  pub carried_none : (first : ℕ) (d : Store) → carried_bytes ma sl t m start first 0 d ≡ d
  unfolding carried_bytes written fetched move
  carried_none first d = go t.write
    where
      go : (w : Bool) → cond w (written ma sl t m start first 0 d) (fetched ma sl t m start first 0 d) ≡ d
      go true = refl
      go false = refl

  -- a part of the bytes, and then those behind it
  pub carried_join : (first n k : ℕ) (d : Store)
      → carried_bytes ma sl t m start (first + n) k (carried_bytes ma sl t m start first n d)
      ≡ carried_bytes ma sl t m start first (n + k) d
  unfolding carried_bytes written fetched
  carried_join first n k d = go t.write
    where
      go : (w : Bool)
          → (let e = cond w (written ma sl t m start first n d) (fetched ma sl t m start first n d) in
          cond w (written ma sl t m start (first + n) k e) (fetched ma sl t m start (first + n) k e))
          ≡ cond w (written ma sl t m start first (n + k) d) (fetched ma sl t m start first (n + k) d)
      go true =
          rw (move_join (stores ma sl t) (bytes_from d.buffer (part_of m)) (memory_index ma sl t start) first n k d.memory)
      go false = rw (move_join all (byte_read ma sl t start d.memory) (index_from (part_of m)) first n k d.buffer)

  -- ranges outside of which the bytes lie are left alone
  pub carried_memory : (first n lo hi : ℕ) (d : Store)
      → ((i : ℕ) → first ≤ i → i < first + n → has_lane ma sl i ≡ true → Outside (memory_index ma sl t start i) lo hi)
      → Agree lo hi (carried_bytes ma sl t m start first n d).memory d.memory
  unfolding carried_bytes written fetched
  carried_memory first n lo hi d h = go t.write
    where
      go : (w : Bool)
          → Agree lo hi (cond w (written ma sl t m start first n d) (fetched ma sl t m start first n d)).memory d.memory
      go true =
          move_apart (stores ma sl t) (bytes_from d.buffer (part_of m)) (memory_index ma sl t start) first n lo hi d.memory
          (λ i p q on. h i p q (stores_lane ma sl t i on))
      go false = agree_refl lo hi d.memory

  pub carried_buffer : (first n lo hi : ℕ) (d : Store) → Apart (part_of m + first) (part_of m + (first + n)) lo hi
      → Agree lo hi (carried_bytes ma sl t m start first n d).buffer d.buffer
  unfolding carried_bytes written fetched
  carried_buffer first n lo hi d h = go t.write
    where
      go : (w : Bool)
          → Agree lo hi (cond w (written ma sl t m start first n d) (fetched ma sl t m start first n d)).buffer d.buffer
      go true = agree_refl lo hi d.buffer
      go false =
          move_apart all (byte_read ma sl t start d.memory) (index_from (part_of m)) first n lo hi d.buffer
          (λ i p q on. ⊎_elim (λ r. inl (omega arith)) (λ r. inr (omega arith)) h)

  -- stores that are alike where the bytes lie are alike there afterwards
  pub carried_alike : (first n lo hi lo' hi' : ℕ) {d e : Store}
      → ((i : ℕ) → first ≤ i → i < first + n → has_lane ma sl i ≡ true
      → (lo ≤ memory_index ma sl t start i) × (memory_index ma sl t start i < hi))
      → lo' ≤ part_of m + first → part_of m + (first + n) ≤ hi' → Alike lo hi lo' hi' d e
      → Alike lo hi lo' hi' (carried_bytes ma sl t m start first n d) (carried_bytes ma sl t m start first n e)
  unfolding carried_bytes written fetched
  carried_alike first n lo hi lo' hi' {d} {e} within low high h = go t.write
    where
      go : (w : Bool)
          → Alike lo hi lo' hi' (cond w (written ma sl t m start first n d) (fetched ma sl t m start first n d))
          (cond w (written ma sl t m start first n e) (fetched ma sl t m start first n e))
      go true = record {
        memory_length = simp length_move h.memory_length;
        buffer_length = h.buffer_length;
        memory =
            move_agree (stores ma sl t) (bytes_from d.buffer (part_of m)) (bytes_from e.buffer (part_of m))
            (memory_index ma sl t start) first n lo hi h.memory_length h.memory
            (λ i a b. h.buffer.same (part_of m + i) (omega arith) (omega arith));
        buffer = h.buffer;
      }
      go false = record {
        memory_length = h.memory_length;
        buffer_length = simp length_move h.buffer_length;
        memory = h.memory;
        buffer =
            move_agree all (byte_read ma sl t start d.memory) (byte_read ma sl t start e.memory) (index_from (part_of m))
            first n lo' hi' h.buffer_length h.buffer
            (λ i a b.
            read_same ma sl t start d.memory e.memory i
            (λ l. let w = within i a b l in h.memory.same (memory_index ma sl t start i) w.0 w.1));
      }

  -- ---- an access has its own bytes, which keep the lengths

  pub length_memory : (a : ℕ) (d : Store) → length (carried_access ma sl t m start a d).memory ≡ length d.memory
  unfolding carried_access
  length_memory a d = carried_memory_length _ _ d

  pub length_buffer : (a : ℕ) (d : Store) → length (carried_access ma sl t m start a d).buffer ≡ length d.buffer
  unfolding carried_access
  length_buffer a d = carried_buffer_length _ _ d

-- ---- the parts of two masters

pub parts_apart : (m k first n : ℕ) → m ≢ k → first + n ≤ 512
    → Apart (part_of m + first) (part_of m + (first + n)) (part_of k) (part_of k + 512)
parts_apart m k first n h l = ⊎_elim (λ (p : m < k). inl (omega arith)) (λ (p : k ≤ m). inr (omega (arith, h))) (less_or m k)

-- zeros at the front of one leave the other
pub cleared_apart : (m k n : ℕ) (buffer : List ℕ) → m ≢ k → n ≤ 512
    → Agree (part_of k) (part_of k + 512) (cleared_words m n buffer) buffer
unfolding cleared_words
cleared_apart m k n buffer h l =
    move_apart all (λ i. 0) (index_from (part_of m)) 0 n (part_of k) (part_of k + 512) buffer
    (λ i p q on. ⊎_elim (λ r. inl (omega arith)) (λ r. inr (omega arith)) (parts_apart m k 0 n h (omega arith)))
