-- Reading the state after a reset, a post or a clock, the slave lines and the mask.
-- Assumes nothing.
use mathlib.Core.Path.{◌≡◌, refl, sym, ◌∙◌}
use mathlib.Core.Bool.{Bool, true, false, not, ◌||◌, and-false, or-true, false≢true, true≢false}
use mathlib.Core.Logic.{◌≢◌}
use Prim.Native.Nat.{ℕ, ◌-◌, ◌≤◌, ◌<◌}
use native.Mathlib.Omega.{arith}
use lib.Dec.{ltb, eqb}
use lib.ListN.{length, get_or, length-set}
use lib.Seq.{get_or-set_same, get_or-set_other}
use borrow.Author.Tests.{lt-ltb, le-ltb, ltb-true, ltb-false, eq-eqb, ne_eqb, eqb-true}
use Rattle.common_laws.specs.Bits.{bit}
use Rattle.common_laws.proofs.TableLaws.{length_table, get_or_table, get_or_table_past, get_or_replicate_all}
use Rattle.common_laws.proofs.Tests.{both}
use Rattle.common_laws.proofs.TableLaws.{some_at, some_here, bit_mask, bit_mask_past}
use Rattle.description_board.specs.declared.Board.{Board}
use Rattle.fabric_transfer.specs.declared.Transfer.{Transfer}
use Rattle.fabric_transfer.specs.Accesses.{no_transfer}
use Rattle.fabric_state.specs.declared.State.{State}
use Rattle.fabric_state.specs.Records.{no_line, no_slot, no_log, transfer_at, slot_at, late_at}
use Rattle.fabric_state.specs.Control.{step_of, line_after, slot_after, ends_at, ended, late_after, completed, finished, mask_of}
use Rattle.fabric_state.specs.Control.{transfer_after, state_after, response_of, responses_of, lines_of}
use Rattle.fabric_state.specs.Soundness.{unmapped_at, latency_at}
use Rattle.fabric_state.specs.Logging.{log_after}
use Rattle.fabric_state.specs.Resetting.{reset_state, state_at_reset}
use Rattle.fabric_state.specs.Posting.{with_transfer}

module _ (b : Board) (st : State) where
  pub transfers_after : length (state_after b st).transfers ≡ 8
  unfolding state_after
  transfers_after = length_table (transfer_after b st) 8

  pub slots_after : length (state_after b st).slots ≡ 16
  unfolding state_after
  slots_after = length_table (slot_after b st) 16

  pub lates_after : length (state_after b st).late ≡ 8
  unfolding state_after
  lates_after = length_table (late_after b st) 8

  pub slot_after_lem : (s : ℕ) → s < b.slave_count → b.slave_count ≤ 16 → slot_at (state_after b st) s ≡ (step_of b st s).slot
  unfolding state_after slot_after
  slot_after_lem s h l = get_or_table (slot_after b st) 16 no_slot s (omega arith) ∙ rw (lt-ltb s b.slave_count h)

  pub line_after_lem : (s : ℕ) → s < b.slave_count → b.slave_count ≤ 16 → get_or (lines_of b st) s no_line ≡ (step_of b st s).line
  unfolding lines_of line_after
  line_after_lem s h l = get_or_table (line_after b st) 16 no_line s (omega arith) ∙ rw (lt-ltb s b.slave_count h)

  pub line_after_past : (s : ℕ) → b.slave_count ≤ s → get_or (lines_of b st) s no_line ≡ no_line
  unfolding lines_of line_after
  line_after_past s h = go (ltb s 16) refl
    where
      go : (c : Bool) → ltb s 16 ≡ c → get_or (lines_of b st) s no_line ≡ no_line
      go true e = get_or_table (line_after b st) 16 no_line s (ltb-true s 16 e) ∙ rw (le-ltb s b.slave_count h)
      go false e = get_or_table_past (line_after b st) 16 no_line s (ltb-false s 16 e)

  pub transfer_after_lem : (m : ℕ) → m < 8 → transfer_at (state_after b st) m ≡ transfer_after b st m
  unfolding state_after
  transfer_after_lem m h = get_or_table (transfer_after b st) 8 no_transfer m h

  pub transfer_after_past : (m : ℕ) → 8 ≤ m → transfer_at (state_after b st) m ≡ no_transfer
  unfolding state_after
  transfer_after_past m h = get_or_table_past (transfer_after b st) 8 no_transfer m h

  pub late_after_lem : (m : ℕ) → m < 8 → late_at (state_after b st) m ≡ late_after b st m
  unfolding state_after
  late_after_lem m h = get_or_table (late_after b st) 8 0 m h

  pub late_after_past : (m : ℕ) → 8 ≤ m → late_at (state_after b st) m ≡ 0
  unfolding state_after
  late_after_past m h = get_or_table_past (late_after b st) 8 0 m h

  pub response_after : (m : ℕ) → m < 8 → get_or (responses_of b st) m 0 ≡ response_of b st m
  unfolding responses_of
  response_after m h = get_or_table (response_of b st) 8 0 m h

  pub response_after_past : (m : ℕ) → 8 ≤ m → get_or (responses_of b st) m 0 ≡ 0
  unfolding responses_of
  response_after_past m h = get_or_table_past (response_of b st) 8 0 m h

  pub log_after_lem : (state_after b st).log ≡ log_after b st
  unfolding state_after
  log_after_lem = refl

  pub mask_bit : (m : ℕ) → m < 8 → bit (mask_of b st) m ≡ finished b st m
  unfolding mask_of
  mask_bit m h = bit_mask (finished b st) 8 m h

  pub mask_bit_past : (m : ℕ) → 8 ≤ m → bit (mask_of b st) m ≡ false
  unfolding mask_of
  mask_bit_past m h = bit_mask_past (finished b st) 8 m h

  -- a last access is carried out by a slave
  pub ended_by : (m : ℕ) → ended b st m ≡ true
      → (s : ℕ) × (s < b.slave_count) × ((step_of b st s).last ≡ true) × ((step_of b st s).line.owner ≡ m)
  unfolding ended ends_at
  ended_by m e =
      let r = some_at (ends_at b st m) b.slave_count e in
      let p = both (step_of b st r.0).last (eqb (step_of b st r.0).line.owner m) r.2 in
      (r.0, r.1, p.0, eqb-true (step_of b st r.0).line.owner m p.1)

  pub ended_here : (m s : ℕ) → s < b.slave_count → (step_of b st s).last ≡ true → (step_of b st s).line.owner ≡ m
      → ended b st m ≡ true
  unfolding ended ends_at
  ended_here m s h e f = some_here (ends_at b st m) b.slave_count s h (rw (e, eq-eqb (step_of b st s).line.owner m f))

  -- ---- latency clocks, and the finish

  module _ (m : ℕ) where
    abbrev behind : ℕ
    behind = latency_at b m (transfer_at st m)

    -- where a master has none to pass: its last access brings those of its transfer
    pub late_ends : late_at st m ≡ 0 → ended b st m ≡ true → late_after b st m ≡ behind
    unfolding late_after
    late_ends z e = rw (z, e)

    pub late_none : late_at st m ≡ 0 → ended b st m ≡ false → late_after b st m ≡ 0
    unfolding late_after
    late_none z e = rw (z, e)

    -- where it has some, one fewer is left
    pub late_less : late_at st m ≢ 0 → late_after b st m ≡ late_at st m - 1
    unfolding late_after
    late_less h = rw (ne_eqb (late_at st m) 0 h)

    -- who has completed its transfer has none left
    pub completed_late : completed b st m ≡ true → late_after b st m ≡ 0
    unfolding completed
    completed_late e =
        eqb-true (late_after b st m) 0 (both (not (eqb (late_at st m) 0) || ended b st m) (eqb (late_after b st m) 0) e).1

    -- and had none, and its last access in this clock, or had some
    completed_ended : completed b st m ≡ true → late_at st m ≡ 0 → (ended b st m ≡ true) × (behind ≡ 0)
    unfolding completed
    completed_ended e z = go (ended b st m) refl
      where
        last : ended b st m ≡ true
        last = rw z at (both (not (eqb (late_at st m) 0) || ended b st m) (eqb (late_after b st m) 0) e).0

        go : (c : Bool) → ended b st m ≡ c → (ended b st m ≡ true) × (behind ≡ 0)
        go true q = (q, sym (late_ends z q) ∙ completed_late e)
        go false q = absurd (true≢false (sym last ∙ q))

    completed_now : late_at st m ≡ 0 → ended b st m ≡ true → behind ≡ 0 → completed b st m ≡ true
    unfolding completed
    completed_now z e f = rw (z, e, late_ends z e, f)

    completed_then : late_at st m ≡ 1 → completed b st m ≡ true
    unfolding completed
    completed_then e =
        let h : late_at st m ≢ 0 = λ q. omega (arith, e, q) in
        let z : late_after b st m ≡ 0 = omega (arith, late_less h, e) in
        rw (ne_eqb (late_at st m) 0 h, z)

    -- who has not: its last access is not carried out, or latency clocks are left
    pub uncompleted_of : late_at st m ≡ 0 → ended b st m ≡ false → completed b st m ≡ false
    unfolding completed
    uncompleted_of z e = rw (z, e)

    uncompleted_late : late_after b st m ≢ 0 → completed b st m ≡ false
    unfolding completed
    uncompleted_late h = rw (ne_eqb (late_after b st m) 0 h) (and-false (not (eqb (late_at st m) 0) || ended b st m))

    -- a master is finished where its transfer is unmapped, or completed
    pub finished_unmapped : unmapped_at b st m ≡ true → finished b st m ≡ true
    unfolding finished
    finished_unmapped e = rw e

    pub finished_mapped : unmapped_at b st m ≡ false → finished b st m ≡ completed b st m
    unfolding finished
    finished_mapped e = rw e

    pub finished_now : late_at st m ≡ 0 → ended b st m ≡ true → behind ≡ 0 → finished b st m ≡ true
    unfolding finished
    finished_now z e f = rw (completed_now z e f) (or-true (unmapped_at b st m))

    pub finished_then : late_at st m ≡ 1 → finished b st m ≡ true
    unfolding finished
    finished_then e = rw (completed_then e) (or-true (unmapped_at b st m))

    module _ (mapped : unmapped_at b st m ≡ false) where
      pub finished_ended : finished b st m ≡ true → late_at st m ≡ 0 → (ended b st m ≡ true) × (behind ≡ 0)
      finished_ended e z = completed_ended (sym (finished_mapped mapped) ∙ e) z

      pub unfinished_of : late_at st m ≡ 0 → ended b st m ≡ false → finished b st m ≡ false
      unfinished_of z e = finished_mapped mapped ∙ uncompleted_of z e

      pub unfinished_late : late_after b st m ≢ 0 → finished b st m ≡ false
      unfinished_late h = finished_mapped mapped ∙ uncompleted_late h

    -- its response
    pub response_unmapped : unmapped_at b st m ≡ true → response_of b st m ≡ 3
    unfolding response_of
    response_unmapped e = rw e

    pub response_mapped : unmapped_at b st m ≡ false → response_of b st m ≡ 0
    unfolding response_of
    response_mapped e = rw e

  pub transfer_finished : (m : ℕ) → finished b st m ≡ true → transfer_after b st m ≡ no_transfer
  unfolding transfer_after
  transfer_finished m e = rw e

  pub transfer_kept : (m : ℕ) → finished b st m ≡ false → transfer_after b st m ≡ transfer_at st m
  unfolding transfer_after
  transfer_kept m e = rw e

  -- who holds a transfer after the clock held it before, and is not finished
  pub held_after : (m : ℕ) → (transfer_at (state_after b st) m).held ≡ true
      → (finished b st m ≡ false) × (transfer_at (state_after b st) m ≡ transfer_at st m)
  held_after m q = go (ltb m 8) refl (finished b st m) refl
    where
      go : (c : Bool) → ltb m 8 ≡ c → (d : Bool) → finished b st m ≡ d
          → (finished b st m ≡ false) × (transfer_at (state_after b st) m ≡ transfer_at st m)
      go true h true f =
          let gone = transfer_after_lem m (ltb-true m 8 h) ∙ transfer_finished m f in
          absurd (false≢true (rw gone at q))
      go true h false f = (f, transfer_after_lem m (ltb-true m 8 h) ∙ transfer_kept m f)
      go false h d f = absurd (false≢true (rw (transfer_after_past m (ltb-false m 8 h)) at q))

-- a post changes one transfer, no slot, no latency clocks, and not the log
module _ (st : State) (m : ℕ) (t : Transfer) where
  pub transfers_with : length (with_transfer st m t).transfers ≡ length st.transfers
  unfolding with_transfer
  transfers_with = length-set st.transfers m t

  pub slots_with : (with_transfer st m t).slots ≡ st.slots
  unfolding with_transfer
  slots_with = refl

  pub transfer_with : length st.transfers ≡ 8 → m < 8 → transfer_at (with_transfer st m t) m ≡ t
  unfolding with_transfer
  transfer_with e h = get_or-set_same st.transfers m t no_transfer (rw e h)

  pub transfer_with_other : (k : ℕ) → k ≢ m → transfer_at (with_transfer st m t) k ≡ transfer_at st k
  unfolding with_transfer
  transfer_with_other k h = get_or-set_other st.transfers m k t no_transfer h

  pub lates_with : (with_transfer st m t).late ≡ st.late
  unfolding with_transfer
  lates_with = refl

  pub late_with : (k : ℕ) → late_at (with_transfer st m t) k ≡ late_at st k
  unfolding with_transfer
  late_with k = refl

  pub log_with : (with_transfer st m t).log ≡ st.log
  unfolding with_transfer
  log_with = refl

  pub slot_with : (s : ℕ) → slot_at (with_transfer st m t) s ≡ slot_at st s
  unfolding with_transfer
  slot_with s = refl

-- reset: no transfers, an empty log, and every slave's last owner is the highest master
pub transfer_reset : (b : Board) (m : ℕ) → transfer_at (state_at_reset b) m ≡ no_transfer
unfolding state_at_reset reset_state
transfer_reset b m = get_or_replicate_all 8 m no_transfer

pub late_reset : (b : Board) (m : ℕ) → late_at (state_at_reset b) m ≡ 0
unfolding state_at_reset reset_state
late_reset b m = get_or_replicate_all 8 m 0

pub log_reset : (b : Board) → (state_at_reset b).log ≡ no_log
unfolding state_at_reset reset_state
log_reset b = refl

pub slot_reset : (b : Board) (s : ℕ) → s < b.slave_count → b.slave_count ≤ 16
    → slot_at (state_at_reset b) s
    ≡ record { owner = b.master_count - 1; remaining = 0; serving = false; done = 0; waited = 0 }
unfolding state_at_reset reset_state
slot_reset b s h l = get_or_table _ 16 no_slot s (omega arith) ∙ rw (lt-ltb s b.slave_count h)
