-- Where the accesses of a sound state lie: in the slave's words, in the lent memory, in the master's part and words.
-- Assumes nothing.
use mathlib.Core.Path.{◌≡◌, refl}
use mathlib.Core.Bool.{true, false}
use Prim.Native.Nat.{ℕ, ◌+◌, ◌-◌, ◌*◌, ◌≤◌, ◌<◌}
use native.Mathlib.Numerals.{add-one}
use native.Mathlib.Omega.{arith}
use lib.ListN.{length}
use Rattle.common_laws.proofs.Arithmetic.{product_le}
use Rattle.description_board.specs.declared.Board.{Board}
use Rattle.description_board.specs.Records.{master_at, slave_at, start_of, memory_length}
use Rattle.description_board.specs.Rules.{too_narrow}
use Rattle.description_board.specs.Legal.{Legal}
use Rattle.description_board.proofs.RuleLaws.{burst_bound, span_bound}
use Rattle.description_board.proofs.PairLaws.{pair_wide}
use Rattle.description_board.proofs.StartLaws as board
use Rattle.fabric_transfer.specs.declared.Transfer.{Transfer}
use Rattle.fabric_transfer.specs.Alignment.{ratio}
use Rattle.fabric_transfer.specs.Accesses.{accesses, access_number}
use Rattle.fabric_transfer.specs.Code.Numbers.{Posted}
use Rattle.fabric_transfer.proofs.DecodeLaws.{span_of}
use Rattle.fabric_transfer.proofs.AlignmentLaws.{ratio_le}
use Rattle.fabric_transfer.proofs.AccessLaws.{width_pos, width_le, base_aligned, first_byte_within, offset_within}
use Rattle.fabric_transfer.proofs.AccessLaws.{word_within, in_word, accesses_le}
use Rattle.fabric_transfer.proofs.NumberLaws.{number_is, numbers_fit}
use Rattle.fabric_transfer.specs.Bytes.{Store, buffer_length}
use Rattle.fabric_transfer.specs.Code.Reaching.{Reached}
use Rattle.fabric_state.specs.declared.State.{State}
use Rattle.fabric_state.specs.Records.{transfer_at}
use Rattle.fabric_state.specs.Control.{slot_after_grant}
use Rattle.fabric_slave.specs.Code.Serving.{Placed}
use Rattle.fabric_state.proofs.Sound.{Sound}
use Rattle.fabric_state.proofs.RequestLaws.{Accepted, accepted_posted}
use Rattle.fabric_state.proofs.SoundLaws.{requester, grant_sound}

-- the spans one after another, as a loop counts the slaves
pub start_next : (b : Board) (s : ℕ) → start_of b (s + 1) ≡ start_of b s + (slave_at b s).span
start_next b s = rw (add-one s) (board.start_next b s)

-- the access that a transfer of master m that is not refused carries out behind k others, at the slave s that it is for
module _ (b : Board) (legal : Legal b) (m s : ℕ) (t : Transfer) (known : m < b.master_count) (ok : Accepted b m t s)
    (k : ℕ) (more : k < accesses (master_at b m) (slave_at b s) t) where
  abbrev a : ℕ
  a = access_number (master_at b m) (slave_at b s) t k

  ends : t.address - (slave_at b s).base + t.beats * (master_at b m).width ≤ (slave_at b s).span
  ends = omega (arith, ok.low, ok.end)

  wide : too_narrow (master_at b m) (slave_at b s) ≡ false
  wide = pair_wide b legal m s known ok.within ok.shares

  posted : Posted (master_at b m) (slave_at b s) t
  posted = accepted_posted b legal m s t known ok

  -- it is one of those of the transfer's beats
  inside : a < t.beats * ratio (master_at b m) (slave_at b s)
  inside =
      omega (
        arith,
        number_is (master_at b m) (slave_at b s) t posted k more,
        numbers_fit (master_at b m) (slave_at b s) t posted,
      )

  pub accepted_placed : Placed (master_at b m) (slave_at b s) t k a
  accepted_placed =
      let wm = (legal.master m known).width in
      let sl = legal.slave s ok.within in
      let span = span_of (slave_at b s).span sl.span in
      let far : (slave_at b s).span ≤ 65536 = (span_bound (slave_at b s).span sl.span).1 in
      let burst : (master_at b m).burst ≤ 64 = (burst_bound (master_at b m).burst (legal.master m known).burst).1 in
      let each = ratio_le (master_at b m) (slave_at b s) 8 (omega arith) (width_le (master_at b m).width wm) in
      let most = accesses_le (master_at b m) (slave_at b s) t 64 (omega (arith, ok.few)) in
      record {
        posted = posted;
        burst = sl.burst;
        left = more;
        few = omega arith;
        number = refl;
        word = in_word (master_at b m) (slave_at b s) wm sl.width t a ok.aligned
            (base_aligned (slave_at b s).base (slave_at b s).span (slave_at b s).width sl.aligned sl.span sl.width);
        offset = omega (
          arith,
          word_within (master_at b m) (slave_at b s) wm sl.width t a inside wide ends span,
          width_pos (slave_at b s).width sl.width,
        );
      }

  pub accepted_reached : (d : Store) → b.master_count ≤ 8 → length d.memory ≡ memory_length b
      → length d.buffer ≡ buffer_length → Reached (master_at b m) (slave_at b s) t m (start_of b s) a d
  accepted_reached d few p q =
      let wm = (legal.master m known).width in
      let ws = (legal.slave s ok.within).width in
      let burst : (master_at b m).burst ≤ 64 = (burst_bound (master_at b m).burst (legal.master m known).burst).1 in
      let words : t.beats * (master_at b m).width ≤ 64 * 8
      = product_le t.beats (master_at b m).width 64 8 (omega (arith, ok.few)) (width_le (master_at b m).width wm) in
      let end = first_byte_within (master_at b m) (slave_at b s) wm ws t a inside in
      record {
        master = omega arith;
        buffer = q;
        part = omega arith;
        wide = posted.wide;
        memory = omega (
          arith,
          offset_within (master_at b m) (slave_at b s) wm ws t a inside wide ends,
          board.end_inside b s ok.within,
        );
      }

-- so is the access of a slave that serves after rule 1
module _ (b : Board) (st : State) (legal : Legal b) (x : Sound b st) (s : ℕ) (h : s < b.slave_count)
    (on : (slot_after_grant b st s).serving ≡ true) where
  -- its access in hand
  abbrev hand : ℕ
  hand =
      access_number (master_at b (slot_after_grant b st s).owner) (slave_at b s) (transfer_at st (slot_after_grant b st s).owner)
      (slot_after_grant b st s).done

  pub grant_placed : Placed (master_at b (slot_after_grant b st s).owner) (slave_at b s)
      (transfer_at st (slot_after_grant b st s).owner) (slot_after_grant b st s).done hand
  grant_placed =
      let v = (grant_sound b st legal x s h).serving on in
      let r = requester b st legal x s (slot_after_grant b st s).owner v.asks in
      accepted_placed b legal (slot_after_grant b st s).owner s (transfer_at st (slot_after_grant b st s).owner) r.0 r.1 _
      v.done

  pub grant_reached : (d : Store) → length d.memory ≡ memory_length b → length d.buffer ≡ buffer_length
      → Reached (master_at b (slot_after_grant b st s).owner) (slave_at b s) (transfer_at st (slot_after_grant b st s).owner)
      (slot_after_grant b st s).owner (start_of b s) hand d
  grant_reached d p q =
      let v = (grant_sound b st legal x s h).serving on in
      let r = requester b st legal x s (slot_after_grant b st s).owner v.asks in
      accepted_reached b legal (slot_after_grant b st s).owner s (transfer_at st (slot_after_grant b st s).owner) r.0 r.1 _
      v.done d legal.few_masters p q
