-- What is true of a state that breaks no rule.
-- Assumes nothing.
use mathlib.Core.Path.{◌≡◌}
use mathlib.Core.Bool.{true, false}
use mathlib.Core.Logic.{◌⊎◌}
use Prim.Native.Nat.{ℕ, ◌≤◌, ◌<◌}
use lib.ListN.{length}
use Rattle.description_board.specs.declared.Board.{Board}
use Rattle.description_board.specs.Records.{master_at, slave_at, shares_at}
use Rattle.fabric_transfer.specs.Accesses.{accesses, wait_of}
use Rattle.fabric_state.specs.declared.State.{State}
use Rattle.fabric_state.specs.Records.{transfer_at, slot_at, late_at}
use Rattle.fabric_state.specs.Posting.{transfer_refusal}
use Rattle.fabric_state.specs.Soundness.{requests, latency_at}

-- a serving slave's owner requests it with a transfer of which something is left
pub record Serves (b : Board) (st : State) (s : ℕ) : Type 0 where
  pub asks : requests b st s (slot_at st s).owner ≡ true
  pub done : (slot_at st s).done < accesses (master_at b (slot_at st s).owner) (slave_at b s) (transfer_at st (slot_at st s).owner)
  pub waited : (slot_at st s).waited ≤ wait_of (slave_at b s) (transfer_at st (slot_at st s).owner)

pub record Sound (b : Board) (st : State) : Type 0 where
  pub transfers : length st.transfers ≡ 8
  pub slots : length st.slots ≡ 16
  pub lates : length st.late ≡ 8
  pub holds : (m : ℕ) → (transfer_at st m).held ≡ true
      → (m < b.master_count) × (transfer_refusal b m (transfer_at st m) ≡ 0)
  pub late : (m : ℕ) → (transfer_at st m).held ≡ true → late_at st m ≤ latency_at b m (transfer_at st m)
  pub free : (m : ℕ) → (transfer_at st m).held ≡ false → late_at st m ≡ 0
  pub owner : (s : ℕ) → s < b.slave_count → (slot_at st s).owner < b.master_count
  pub remaining : (s : ℕ) → s < b.slave_count
      → ((slot_at st s).remaining ≡ 0) ⊎ ((slot_at st s).remaining < shares_at b (slot_at st s).owner s)
  pub serving : (s : ℕ) → s < b.slave_count → (slot_at st s).serving ≡ true → Serves b st s
  pub resting : (s : ℕ) → s < b.slave_count → (slot_at st s).serving ≡ false
      → ((slot_at st s).done ≡ 0) × ((slot_at st s).waited ≡ 0)
  pub log : st.log.count ≤ 8
