-- The accesses that a transfer leaves out have no byte to move: those that are carried out, one after another, move exactly the
-- bytes that the whole transfer does.
-- Assumes nothing.
use mathlib.Core.Path.{◌≡◌, refl, sym, ◌∙◌}
use mathlib.Core.Bool.{Bool, true, false, true≢false}
use Prim.Native.Nat.{ℕ, zero, suc, ◌+◌, ◌-◌, ◌*◌, ◌≤◌, ◌<◌}
use native.Mathlib.Nat.{zero-mul, suc-mul}
use native.Mathlib.Omega.{arith}
use Rattle.description_board.specs.declared.Master.{Master}
use Rattle.description_board.specs.Records.{Slave}
use Rattle.fabric_transfer.specs.declared.Transfer.{Transfer}
use Rattle.fabric_transfer.specs.Alignment.{leaves_out, access_bytes}
use Rattle.fabric_transfer.specs.Accesses.{first_byte, accessed}
use Rattle.fabric_transfer.specs.Code.Pairs.{Widths}
use Rattle.fabric_transfer.proofs.NumberLaws.{leaves_write, leaves_none, left_out_lane}
use Rattle.fabric_transfer.proofs.AccessLaws.{first_add}
use Rattle.fabric_transfer.specs.Moving.{bytes_from}
use Rattle.fabric_transfer.specs.Bytes.{Store, part_of, memory_index, stores, written, carried_bytes, carried_access}
use Rattle.fabric_transfer.proofs.MoveLaws.{move_off}
use Rattle.fabric_transfer.proofs.StoreLaws.{carried_write, carried_none, carried_join}

module _ (ma : Master) (sl : Slave) (t : Transfer) (w : Widths ma sl) where
  -- an access that is left out is a write's, and stores none of its bytes
  left_out_write : (a : ℕ) → accessed ma sl t a ≡ false → t.write ≡ true
  left_out_write a out = go (leaves_out sl t) refl
    where
      go : (c : Bool) → leaves_out sl t ≡ c → t.write ≡ true
      go true e = leaves_write ma sl t e
      go false e = absurd (true≢false (sym (leaves_none ma sl t e a) ∙ out))

  left_out_stores : (a : ℕ) → accessed ma sl t a ≡ false → (i : ℕ) → first_byte ma sl a ≤ i
      → i < first_byte ma sl a + access_bytes ma sl → stores ma sl t i ≡ false
  unfolding stores
  left_out_stores a out i low high =
      let j = i - first_byte ma sl a in
      let e : first_byte ma sl a + j ≡ i = omega arith in
      rw (rw e at (left_out_lane ma sl t w a out j (omega arith)))

  module _ (m start : ℕ) where
    pub left_out_none : (a : ℕ) → accessed ma sl t a ≡ false → (d : Store) → carried_access ma sl t m start a d ≡ d
    unfolding carried_access written
    left_out_none a out d =
        carried_write ma sl t m start (first_byte ma sl a) (access_bytes ma sl) d (left_out_write a out)
        ∙ rw (move_off (stores ma sl t) (bytes_from d.buffer (part_of m)) (memory_index ma sl t start) (first_byte ma sl a)
        (access_bytes ma sl) d.memory (left_out_stores a out))

    -- nor do several, one after another
    pub left_out_all : (a n : ℕ) → ((i : ℕ) → a ≤ i → i < a + n → accessed ma sl t i ≡ false) → (d : Store)
        → carried_bytes ma sl t m start (first_byte ma sl a) (n * access_bytes ma sl) d ≡ d
    unfolding carried_access
    left_out_all a zero h d = rw zero-mul (carried_none ma sl t m start (first_byte ma sl a) d)
    left_out_all a (suc n) h d =
        let first : first_byte ma sl a + n * access_bytes ma sl ≡ first_byte ma sl (a + n) = sym (first_add ma sl a n) in
        rw (suc-mul n (access_bytes ma sl))
        (sym (carried_join ma sl t m start (first_byte ma sl a) (n * access_bytes ma sl) (access_bytes ma sl) d)
        ∙ rw (left_out_all a n (λ i p q. h i p (omega arith)) d, first)
        (left_out_none (a + n) (h (a + n) (omega arith) (omega arith)) d))
