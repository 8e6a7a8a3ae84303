-- The transfers whose last access is still to come: what a sound state says of them, and what a clock leaves of them.
-- Assumes nothing.
use mathlib.Core.Path.{◌≡◌, refl, sym, ◌∙◌}
use mathlib.Core.Bool.{true, false, cond, true≢false, false≢true}
use mathlib.Core.Logic.{⊎_elim, ◌≢◌}
use Prim.Native.Nat.{ℕ, ◌≤◌, ◌<◌}
use native.Mathlib.Decide.{ℕ_discrete}
use native.Mathlib.Nat.{mul-le-mul}
use native.Mathlib.Omega.{arith}
use lib.Dec.{eqb}
use borrow.Author.Tests.{ne_eqb}
use Rattle.common_laws.proofs.Tests.{both}
use Rattle.description_board.specs.declared.Board.{Board}
use Rattle.description_board.specs.Records.{master_at, slave_at}
use Rattle.description_board.specs.Legal.{Legal}
use Rattle.description_board.proofs.RuleLaws.{width_bound, burst_bound}
use Rattle.description_board.proofs.PairLaws.{pair_wide}
use Rattle.description_board.proofs.StartLaws.{end_inside}
use Rattle.fabric_transfer.specs.declared.Transfer.{Transfer}
use Rattle.fabric_transfer.specs.Accesses.{no_transfer}
use Rattle.fabric_transfer.specs.Decoding.{target_of}
use Rattle.fabric_transfer.proofs.AlignmentLaws.{byte_within}
use Rattle.fabric_transfer.specs.Bytes.{Store, memory_index}
use Rattle.fabric_transfer.proofs.MoveLaws.{less_or}
use Rattle.fabric_state.specs.declared.Slot.{Slot}
use Rattle.fabric_state.specs.declared.Log.{Log}
use Rattle.fabric_state.specs.declared.State.{State}
use Rattle.fabric_state.specs.Records.{transfer_at, late_at}
use Rattle.fabric_state.specs.Soundness.{requests, unmapped_at}
use Rattle.fabric_state.specs.Control.{slot_after_grant, ended, finished, state_after}
use Rattle.fabric_state.specs.Logging.{with_log}
use Rattle.fabric_state.specs.Carrying.{carries_out, carried}
use Rattle.fabric_state.proofs.Sound.{Sound}
use Rattle.fabric_state.proofs.RequestLaws.{Accepted, accepted, accepted_posted, requests_free, requests_held, requests_target}
use Rattle.fabric_state.proofs.RequestLaws.{target_mapped, mapped_of}
use Rattle.fabric_state.proofs.StateLaws.{transfer_after_past, late_after_lem, late_ends, late_less, held_after}
use Rattle.fabric_state.proofs.StateLaws.{finished_now, finished_then}
use Rattle.fabric_state.proofs.StepLaws.{carries_is}
use Rattle.fabric_state.proofs.SoundLaws.{grant_sound}
use Rattle.theorem_history.proofs.ReadBytes.TransferBytes.{accesses_at, access_at, Lies}
use Rattle.theorem_history.proofs.ReadBytes.SlaveBytes.{Wants}

-- rule 4.16: the transfer of master m until its last access. A master that passes latency clocks counts as one that holds
-- nothing: its transfer neither waits for its first cycle nor is served
unfoldable pub active_at : State → ℕ → Transfer
active_at st m = cond (eqb (late_at st m) 0) (transfer_at st m) no_transfer

module _ (st : State) (m : ℕ) where
  pub active_free : late_at st m ≡ 0 → active_at st m ≡ transfer_at st m
  unfolding active_at
  active_free z = rw z

  active_late : late_at st m ≢ 0 → active_at st m ≡ no_transfer
  unfolding active_at
  active_late h = rw (ne_eqb (late_at st m) 0 h)

  -- who holds one has no latency clocks to pass
  pub active_held : (active_at st m).held ≡ true → (late_at st m ≡ 0) × (active_at st m ≡ transfer_at st m)
  active_held e = go (ℕ_discrete (late_at st m) 0)
    where
      go : Dec (late_at st m ≡ 0) → (late_at st m ≡ 0) × (active_at st m ≡ transfer_at st m)
      go (yes z) = (z, active_free z)
      go (no h) = absurd (false≢true (rw (active_late h) at e))

pub active_same : (st u : State) (m : ℕ) → transfer_at u m ≡ transfer_at st m → late_at u m ≡ late_at st m
    → active_at u m ≡ active_at st m
unfolding active_at
active_same st u m same late = rw (same, late)

-- a take leaves all of them
pub active_logged : (st : State) (log : Log) → active_at (with_log st log) ≡ active_at st
unfolding active_at with_log
active_logged st log = refl

-- who holds one behind a clock held it before, and did not have its last access in the clock
module _ (b : Board) (st : State) (m : ℕ) (e : (active_at (state_after b st) m).held ≡ true) where
  then_free : late_at (state_after b st) m ≡ 0
  then_free = (active_held (state_after b st) m e).0

  then_is : active_at (state_after b st) m ≡ transfer_at (state_after b st) m
  then_is = (active_held (state_after b st) m e).1

  then_held : (transfer_at (state_after b st) m).held ≡ true
  then_held = rw then_is at e

  unfinished : finished b st m ≡ false
  unfinished = (held_after b st m then_held).0

  known : m < 8
  known =
      ⊎_elim (λ (l : m < 8). l)
      (λ (l : 8 ≤ m). absurd (false≢true (rw (transfer_after_past b st m l) at then_held)))
      (less_or m 8)

  -- with one latency clock to pass it would be finished, with more it would still have some
  free_before : late_at st m ≡ 0
  free_before = go (ℕ_discrete (late_at st m) 0)
    where
      go : Dec (late_at st m ≡ 0) → late_at st m ≡ 0
      go (yes z) = z
      go (no h) =
          let one : late_at st m ≡ 1 = omega (arith, h, late_less b st m h, late_after_lem b st m known, then_free) in
          absurd (true≢false (sym (finished_then b st m one) ∙ unfinished))

  pub active_after : active_at (state_after b st) m ≡ active_at st m
  active_after = then_is ∙ (held_after b st m then_held).1 ∙ sym (active_free st m free_before)

  -- behind its last access it would be finished, or have latency clocks to pass
  pub active_unended : ended b st m ≡ true → ⊥
  active_unended f =
      let none = sym (late_ends b st m free_before f) ∙ sym (late_after_lem b st m known) ∙ then_free in
      true≢false (sym (finished_now b st m free_before f none) ∙ unfinished)

module _ (b : Board) (legal : Legal b) (st : State) (sound : Sound b st) where
  -- the slot of slave k after the grant
  abbrev now : ℕ → Slot
  now k = slot_after_grant b st k

  -- ---- what a sound state says of a transfer that it holds

  held_lies : (m k : ℕ) → Wants b m k (transfer_at st m) → Lies b m k (transfer_at st m)
  unfolding memory_index
  held_lies m k w =
      let t = transfer_at st m in
      let h = sound.holds m w.held in
      let mapped = target_mapped b m t (omega (arith, w.target, w.within)) in
      let a : Accepted b m t k = rw w.target at (accepted b legal m t h.1 mapped) in
      let burst = burst_bound (master_at b m).burst (legal.master m h.0).burst in
      let width = width_bound (master_at b m).width (legal.master m h.0).width in
      let beats : t.beats ≤ 64 = omega (arith, a.few, burst.1) in
      let ma = master_at b m in
      let sl = slave_at b k in
      let wm = (legal.master m h.0).width in
      let ws = (legal.slave k a.within).width in
      let wide = pair_wide b legal m k h.0 a.within a.shares in
      record {
        known = omega (arith, h.0, legal.few_masters);
        few = mul-le-mul beats width.1;
        placed = λ i h l. (
          omega arith,
          omega (arith, byte_within ma sl wm ws t wide (omega (arith, a.low, a.end)) i h l),
        );
        inside = end_inside b k a.within;
        posted = accepted_posted b legal m k t h.0 a;
      }

  pub lies : (m k : ℕ) → Wants b m k (active_at st m) → Lies b m k (active_at st m)
  lies m k w = let same = (active_held st m w.held).1 in rw same (held_lies m k (rw same at w))

  -- it is not unmapped
  pub wants_mapped : (m k : ℕ) → Wants b m k (active_at st m) → unmapped_at b st m ≡ false
  wants_mapped m k w =
      let same = (active_held st m w.held).1 in
      let target : target_of b m (transfer_at st m).address ≡ k = rw same at w.target in
      mapped_of b st m (target_mapped b m (transfer_at st m) (omega (arith, target, w.within)))

  -- ---- a slave that serves

  module _ (k : ℕ) (below : k < b.slave_count) where
    -- its owner requests it
    owner_asks : (now k).serving ≡ true → requests b st k (now k).owner ≡ true
    owner_asks on = ((grant_sound b st legal sound k below).serving on).asks

    pub owner_free : (now k).serving ≡ true → late_at st (now k).owner ≡ 0
    owner_free on = requests_free b st k (now k).owner (owner_asks on)

    pub owner_active : (now k).serving ≡ true → active_at st (now k).owner ≡ transfer_at st (now k).owner
    owner_active on = active_free st (now k).owner (owner_free on)

    -- and holds a transfer for it, with accesses left
    pub owner_wants : (now k).serving ≡ true → Wants b (now k).owner k (active_at st (now k).owner)
    owner_wants on =
        rw (owner_active on) (record {
          held = requests_held b st k (now k).owner (owner_asks on);
          target = requests_target b st k (now k).owner legal (owner_asks on);
          within = below;
        })

    pub some_left : (now k).serving ≡ true → (now k).done < accesses_at b k (now k).owner (active_at st (now k).owner)
    some_left on = rw (owner_active on) ((grant_sound b st legal sound k below).serving on).done

    -- one of which it carries out, or none
    pub carries_serving : carries_out b st k ≡ true → (now k).serving ≡ true
    carries_serving e = (both (now k).serving _ (sym (carries_is b st k) ∙ e)).0

    pub carried_access_lem : (d : Store) → carries_out b st k ≡ true
        → carried b st k d ≡ access_at b k (now k).owner (active_at st (now k).owner) (now k).done d
    unfolding carried
    carried_access_lem d e = rw (e, owner_active (carries_serving e))

    pub carried_none : (d : Store) → carries_out b st k ≡ false → carried b st k d ≡ d
    unfolding carried
    carried_none d e = rw e
