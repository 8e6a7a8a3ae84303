-- One access by its numbers: what the code's moves ask for, and that what they leave is the access of the definition.
-- Assumes nothing.
use mathlib.Core.Path.{◌≡◌, refl, sym, ap, ◌∙◌}
use mathlib.Core.Bool.{Bool, true, false, and-true, and-false}
use mathlib.Core.List.{List}
use Prim.Native.Nat.{ℕ, ◌+◌, ◌-◌, ◌%◌, ◌≤◌, ◌<◌}
use native.Mathlib.Nat.{zero-add, mod-add-mod, mod-eq_of_lt}
use native.Mathlib.Omega.{arith}
use lib.ListN.{length, get_or}
use Rattle.common_laws.specs.Bits.{bit}
use Rattle.description_board.specs.declared.Master.{Master}
use Rattle.description_board.specs.Records.{Slave}
use Rattle.fabric_transfer.specs.declared.Transfer.{Transfer}
use Rattle.fabric_transfer.specs.Alignment.{lane_bytes, access_bytes, has_lane}
use Rattle.fabric_transfer.specs.Accesses.{first_byte, access_offset}
use Rattle.fabric_transfer.proofs.AlignmentLaws.{lanes_access, first_in_word, lane_offset, lane_below, lane_above}
use Rattle.fabric_transfer.proofs.AccessLaws.{width_le}
use Rattle.fabric_transfer.specs.Moving.{all, bytes_from, index_from, move}
use Rattle.fabric_transfer.specs.Bytes.{Store, buffer_length, part_of, memory_index, stores, byte_read, written, fetched}
use Rattle.fabric_transfer.specs.Bytes.{carried_access}
use Rattle.fabric_transfer.specs.Code.Reaching.{Reached}
use Rattle.fabric_transfer.proofs.MoveLaws.{length_move, move_join, move_off, move_same}
use Rattle.fabric_transfer.proofs.StoreLaws.{carried_write, carried_read}

-- access a, which begins at `offset` in the slave; of its bytes, from `first` on, `count` have a lane
module _ (ma : Master) (sl : Slave) (t : Transfer) (m start a : ℕ) (d : Store) (r : Reached ma sl t m start a d)
    {offset first count : ℕ} (o : offset ≡ access_offset ma sl t a) (f : first ≡ first_byte ma sl a)
    (n : count ≡ lane_bytes ma sl) where
  pub index_fits : start + offset + count ≤ length d.memory
  index_fits = rw (o, n) r.memory

  pub lanes_fit : count ≤ access_bytes ma sl
  lanes_fit = rw n (lanes_access ma sl)

  -- the bytes with a lane, and those without
  pub part_fits : first + count ≤ 512
  part_fits = omega (arith, r.part, lanes_fit)

  pub rest_fits : {bytes : ℕ} → bytes ≡ access_bytes ma sl → first + count + (bytes - count) ≤ 512
  rest_fits e = omega (arith, r.part, lanes_fit)

  pub lanes_within : {lane : ℕ} → lane ≡ first % ma.width → lane + count ≤ 8
  lanes_within e =
      let w = r.wide.master in
      let l : first % ma.width + count ≤ ma.width = rw (f, n) (first_in_word ma sl w r.wide.slave a) in
      omega (arith, width_le ma.width w)

  pub reads : (length d.buffer ≡ buffer_length) × (m < 8) × (first + count ≤ 512)
      × (start + offset + count ≤ length d.memory)
  reads = (r.buffer, r.master, part_fits, index_fits)

  -- the buffer behind the bytes with a lane
  abbrev fetched_lanes : List ℕ
  fetched_lanes = move all (bytes_from d.memory (start + offset)) (λ k. part_of m + (first + k)) 0 count d.buffer

  pub clears : (byte at : ℕ → ℕ) {bytes : ℕ} {buffer : List ℕ} → bytes ≡ access_bytes ma sl
      → buffer ≡ move all byte at 0 count d.buffer
      → (length buffer ≡ buffer_length) × (m < 8) × (first + count + (bytes - count) ≤ 512)
  clears byte at e q =
      (ap length q ∙ length_move all byte at 0 count d.buffer ∙ r.buffer, r.master, rest_fits e)

  pub writes : {lane : ℕ} → lane ≡ first % ma.width
      → (length d.buffer ≡ buffer_length) × (m < 8) × (first + count ≤ 512)
      × (start + offset + count ≤ length d.memory) × (lane + count ≤ 8)
  writes e = (r.buffer, r.master, part_fits, index_fits, lanes_within e)

  -- byte k of the access: one with a lane, where it lies and which lane it has; one without
  lane_there : (k : ℕ) → k < count → has_lane ma sl (first + k) ≡ true
  lane_there k h = rw f (lane_below ma sl r.wide.master r.wide.slave t a k (omega arith))

  lane_missing : (k : ℕ) → count ≤ k → k < access_bytes ma sl → has_lane ma sl (first + k) ≡ false
  lane_missing k h l = rw f (lane_above ma sl r.wide.master r.wide.slave t a k (omega arith) l)

  index_there : (k : ℕ) → k < count → memory_index ma sl t start (first + k) ≡ start + offset + k
  unfolding memory_index
  index_there k h =
      let e = lane_offset ma sl r.wide.master r.wide.slave t a k (omega arith) in
      rw f (ap (λ (x : ℕ). start + x) e ∙ omega (arith, o))

  stored_there : {lane : ℕ} → lane ≡ first % ma.width → (k : ℕ) → k < count
      → stores ma sl t (first + k) ≡ bit t.lanes (lane + k)
  unfolding stores
  stored_there {lane} e k h =
      let w = r.wide.master in
      let l : first % ma.width + count ≤ ma.width = rw (f, n) (first_in_word ma sl w r.wide.slave a) in
      let same : (first + k) % ma.width ≡ lane + k =
      sym (mod-add-mod first ma.width k) ∙ mod-eq_of_lt (omega arith) ∙ ap (λ (x : ℕ). x + k) (sym e) in
      rw (lane_there k h, same, and-true)

  read_there : (k : ℕ) → k < count → byte_read ma sl t start d.memory (first + k) ≡ get_or d.memory (start + offset + k) 0
  unfolding byte_read
  read_there k h = rw (lane_there k h, index_there k h)

  read_missing : (k : ℕ) → count ≤ k → k < access_bytes ma sl → byte_read ma sl t start d.memory (first + k) ≡ 0
  unfolding byte_read
  read_missing k h l = rw (lane_missing k h l)

  stored_missing : (k : ℕ) → count ≤ k → k < access_bytes ma sl → stores ma sl t (first + k) ≡ false
  unfolding stores
  stored_missing k h l = rw (lane_missing k h l, and-false)

  -- ---- what the moves leave

  module _ (on : ℕ → Bool) (byte at : ℕ → ℕ) where
    -- the bytes of the access are those with a lane, and then the others
    parted : (list : List ℕ)
        → move on byte at (first_byte ma sl a) (access_bytes ma sl) list
        ≡ move on byte at (first + count) (access_bytes ma sl - count) (move on byte at first count list)
    parted list =
        let e : count + (access_bytes ma sl - count) ≡ access_bytes ma sl = omega (arith, lanes_fit) in
        sym (move_join on byte at first count (access_bytes ma sl - count) list ∙ rw (e, f))

  pub write_done : {memory : List ℕ} {lane : ℕ} → t.write ≡ true → lane ≡ first % ma.width
      → memory
      ≡ move (λ k. bit t.lanes (lane + k)) (λ k. get_or d.buffer (part_of m + (first + k)) 0) (index_from (start + offset)) 0
      count d.memory
      → ◌≡◌ {A = Store} (record { memory = memory; buffer = d.buffer }) (carried_access ma sl t m start a d)
  unfolding carried_access written
  write_done {memory} {lane} e l q =
      let byte = bytes_from d.buffer (part_of m) in
      let at = memory_index ma sl t start in
      let moved = move_same (stores ma sl t) (λ k. bit t.lanes (lane + k)) byte
      (λ k. get_or d.buffer (part_of m + (first + k)) 0) at (index_from (start + offset)) first 0 count d.memory
      (λ k h. rw zero-add (stored_there l k h, refl, index_there k h)) in
      let below = move (stores ma sl t) byte at first count d.memory in
      let off = move_off (stores ma sl t) byte at (first + count) (access_bytes ma sl - count) below
      (λ i p h.
      let z : first + (i - first) ≡ i = omega arith in
      ap (stores ma sl t) (sym z) ∙ stored_missing (i - first) (omega arith) (omega (arith, lanes_fit))) in
      rw (
        carried_write ma sl t m start (first_byte ma sl a) (access_bytes ma sl) d e,
        parted (stores ma sl t) byte at d.memory,
        off,
        moved,
        q,
      )

  pub read_done : {before buffer : List ℕ} {bytes : ℕ} → t.write ≡ false → bytes ≡ access_bytes ma sl → before ≡ fetched_lanes
      → buffer ≡ move all (λ k. 0) (λ k. part_of m + (first + count + k)) 0 (bytes - count) before
      → ◌≡◌ {A = Store} (record { memory = d.memory; buffer = buffer }) (carried_access ma sl t m start a d)
  unfolding carried_access fetched
  read_done {before} {buffer} {bytes} e l p q =
      let byte = byte_read ma sl t start d.memory in
      let at = index_from (part_of m) in
      let moved = move_same all all byte (bytes_from d.memory (start + offset)) at (λ k. part_of m + (first + k)) first 0 count
      d.buffer (λ k h. rw zero-add (refl, read_there k h, refl)) in
      let cleared = move_same all all byte (λ k. 0) at (λ k. part_of m + (first + count + k)) (first + count) 0
      (access_bytes ma sl - count) (move all byte at first count d.buffer)
      (λ k h.
      let z : first + count + k ≡ first + (count + k) = omega arith in
      rw zero-add (refl, ap byte z ∙ read_missing (count + k) (omega arith) (omega (arith, lanes_fit)), refl)) in
      rw (
        carried_read ma sl t m start (first_byte ma sl a) (access_bytes ma sl) d e,
        parted all byte at d.buffer,
        cleared,
        moved,
        q,
        p,
        l,
      )

-- the words of a post, from the front of the words to the front of a part
pub words_posted : (words : List ℕ) (k n : ℕ) (buffer : List ℕ)
    → move all (bytes_from words 0) (λ t. k + (0 + t)) 0 n buffer ≡ move all (λ i. get_or words i 0) (index_from k) 0 n buffer
words_posted words k n buffer =
    move_same all all (bytes_from words 0) (λ i. get_or words i 0) (λ t. k + (0 + t)) (index_from k) 0 0 n buffer
    (λ i h. simp zero-add (refl, refl, refl))

-- zeros, to the front of a part
pub front_cleared : (k n : ℕ) (buffer : List ℕ)
    → move all (λ t. 0) (λ t. k + (0 + t)) 0 n buffer ≡ move all (λ i. 0) (index_from k) 0 n buffer
front_cleared k n buffer =
    move_same all all (λ t. 0) (λ i. 0) (λ t. k + (0 + t)) (index_from k) 0 0 n buffer (λ i h. simp zero-add (refl, refl, refl))
