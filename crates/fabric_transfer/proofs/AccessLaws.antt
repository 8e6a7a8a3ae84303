-- What the definitions of accesses say together: the bytes of a transfer, and where its accesses lie in the slave's words.
-- Assumes nothing.
use mathlib.Core.Path.{◌≡◌, ap, ◌∙◌}
use mathlib.Core.Bool.{Bool, true, false, cond}
use Prim.Native.Nat.{ℕ, ◌+◌, ◌-◌, ◌*◌, ◌%◌, ◌≤◌, ◌<◌}
use native.Mathlib.Nat.{mul_assoc, add-mul, one-mul, zero-mul, mul-le-mul_right, le_trans}
use native.Mathlib.Omega.{arith}
use lib.Dec.{eqb, eqb→eq}
use Rattle.common_laws.specs.Lists.{member}
use Rattle.common_laws.proofs.Arithmetic.{multiple_trans, rounded_room}
use Rattle.common_laws.proofs.Members.{of_member}
use Rattle.common_laws.proofs.FilteredLaws.{length_filtered}
use Rattle.description_board.specs.declared.Master.{Master}
use Rattle.description_board.specs.Records.{Slave}
use Rattle.description_board.specs.Rules.{widths, spans, too_narrow}
use Rattle.description_board.proofs.RuleLaws.{width_bound}
use Rattle.fabric_transfer.specs.declared.Transfer.{Transfer}
use Rattle.fabric_lanes.specs.Lanes.{all_lanes}
use Rattle.fabric_transfer.specs.Code.Pairs.{Span}
use Rattle.fabric_transfer.specs.Alignment.{ratio, lane_bytes, access_bytes}
use Rattle.fabric_transfer.specs.Accesses.{first_byte, access_offset, word_offset, write_lanes, slave_lanes}
use Rattle.fabric_transfer.specs.Accesses.{accessed, access_numbers, accesses}
use Rattle.fabric_transfer.specs.Code.Pairs.{InWord}
use Rattle.fabric_transfer.proofs.AlignmentLaws.{lanes_access, ratio_bytes, lanes_pos, offset_in_word}
use Rattle.fabric_transfer.proofs.AlignmentLaws.{lane_offset, lane_below, byte_within}
use Rattle.fabric_transfer.proofs.DecodeLaws.{span_eight, span_of}

-- the lanes of each direction
module _ (ma : Master) (sl : Slave) (t : Transfer) (a : ℕ) where
  pub read_slave_lanes : t.write ≡ false → slave_lanes ma sl t a ≡ all_lanes sl.width
  unfolding slave_lanes
  read_slave_lanes e = ap (λ (b : Bool). cond b (write_lanes ma sl t a) (all_lanes sl.width)) e

  pub write_slave_lanes : t.write ≡ true → slave_lanes ma sl t a ≡ write_lanes ma sl t a
  unfolding slave_lanes
  write_slave_lanes e = ap (λ (b : Bool). cond b (write_lanes ma sl t a) (all_lanes sl.width)) e

-- the accesses of a transfer: at most those of its beats
pub accesses_le : (ma : Master) (sl : Slave) (t : Transfer) (n : ℕ) → t.beats ≤ n → accesses ma sl t ≤ n * ratio ma sl
unfolding accesses access_numbers
accesses_le ma sl t n h =
    le_trans (length_filtered (accessed ma sl t) (t.beats * ratio ma sl)) (mul-le-mul_right (ratio ma sl) h)

-- the first bytes of the accesses, one after another
module _ (ma : Master) (sl : Slave) where
  pub first_zero : first_byte ma sl 0 ≡ 0
  unfolding first_byte
  first_zero = zero-mul (access_bytes ma sl)

  pub first_next : (a : ℕ) → first_byte ma sl (a + 1) ≡ first_byte ma sl a + access_bytes ma sl
  unfolding first_byte
  first_next a = rw (add-mul, one-mul)

  pub first_add : (a n : ℕ) → first_byte ma sl (a + n) ≡ first_byte ma sl a + n * access_bytes ma sl
  unfolding first_byte
  first_add a n = add-mul a n (access_bytes ma sl)

  pub first_le : (a c : ℕ) → a ≤ c → first_byte ma sl a ≤ first_byte ma sl c
  unfolding first_byte
  first_le a c h = mul-le-mul_right (access_bytes ma sl) h

-- the widths, which are the counts of lanes too: 1, 2, 4 and 8
pub width_pos : (n : ℕ) → member n widths ≡ true → 0 < n
width_pos n p = (width_bound n p).0

pub width_le : (n : ℕ) → member n widths ≡ true → n ≤ 8
width_le n p = (width_bound n p).1

pub width_divides : (n : ℕ) → member n widths ≡ true → 8 % n ≡ 0
width_divides n p = eqb→eq _ _ (of_member (λ m. eqb (8 % m) 0) widths tt n p)

-- a span n, and a base on a multiple of it, are multiples of every width w
pub span_aligned : (n w : ℕ) → Span n → member w widths ≡ true → n % w ≡ 0
span_aligned n w s h = multiple_trans n 8 w (span_eight s) (width_divides w h)

pub base_aligned : (base n w : ℕ) → base % n ≡ 0 → member n spans ≡ true → member w widths ≡ true → base % w ≡ 0
base_aligned base n w e s h = multiple_trans base n w e (span_aligned n w (span_of n s) h)

-- a master and a slave of legal widths
module _ (ma : Master) (sl : Slave) (m : member ma.width widths ≡ true) (s : member sl.width widths ≡ true) where
  module _ (t : Transfer) where
    -- the bytes of the transfer fall to the accesses of its beats: behind the last lies the end of the transfer
    pub first_all : first_byte ma sl (t.beats * ratio ma sl) ≡ t.beats * ma.width
    unfolding first_byte
    first_all =
        mul_assoc t.beats (ratio ma sl) (access_bytes ma sl) ∙ ap (λ (x : ℕ). t.beats * x) (ratio_bytes ma sl m s)

    -- no access passes it
    pub first_byte_within : (a : ℕ) → a < t.beats * ratio ma sl → first_byte ma sl a + access_bytes ma sl ≤ t.beats * ma.width
    first_byte_within a h =
        omega (arith, first_le ma sl (a + 1) (t.beats * ratio ma sl) (omega arith), first_next ma sl a, first_all)

    -- where the transfer ends within the span, so does every access, and the slave word of every access
    module _ (a : ℕ) (h : a < t.beats * ratio ma sl) (wide : too_narrow ma sl ≡ false)
        (ends : t.address - sl.base + t.beats * ma.width ≤ sl.span) where
      pub offset_within : access_offset ma sl t a + lane_bytes ma sl ≤ sl.span
      offset_within =
          let last = lane_bytes ma sl - 1 in
          let pos = lanes_pos ma sl m s in
          let inside : first_byte ma sl a + last < t.beats * ma.width =
          omega (arith, first_byte_within a h, lanes_access ma sl) in
          omega (
            arith,
            lane_offset ma sl m s t a last (omega arith),
            byte_within ma sl m s t wide ends (first_byte ma sl a + last) inside (lane_below ma sl m s t a last (omega arith)),
          )

      pub word_within : Span sl.span → word_offset ma sl t a + sl.width ≤ sl.span
      unfolding word_offset
      word_within span =
          rounded_room (access_offset ma sl t a) sl.width sl.span (width_pos sl.width s)
          (omega (arith, offset_within, lanes_pos ma sl m s)) (span_aligned sl.span sl.width span s)

    -- an access lies within one slave word
    pub in_word : (a : ℕ) → t.address % ma.width ≡ 0 → sl.base % sl.width ≡ 0 → InWord ma sl t a
    in_word a at from = record {
      width = width_le sl.width s;
      inside = offset_in_word ma sl m s t a at from;
    }
