-- Gives the code of fabric_cycle its shape: the clock of one slave in a state that is being changed.
-- What it is handed, and what it leaves, from what stands in that state.
-- Assumes nothing.
use Rattle.std.specs.Prelude.{◌≡◌, Bool, true, cond, ◌&&◌, List, ℕ, ◌^◌, ◌<◌, eqb, set}
use Rattle.description_board.specs.declared.Board.{Board}
use Rattle.description_board.specs.Records.{master_at, slave_at}
use Rattle.fabric_transfer.specs.Accesses.{no_transfer, latency_of}
use Rattle.fabric_transfer.specs.Bytes.{Store}
use Rattle.fabric_state.specs.declared.Slot.{Slot}
use Rattle.fabric_state.specs.declared.State.{State}
use Rattle.fabric_state.specs.declared.Line.{Line}
use Rattle.fabric_state.specs.declared.Step.{Step}
use Rattle.fabric_state.specs.Records.{transfer_at}
use Rattle.fabric_state.specs.Posting.{with_transfer}
use Rattle.fabric_layout.specs.Code.Puts.{with_slot, with_late}
use Rattle.fabric_grant.specs.Code.Asking.{slot_asked}
use Rattle.fabric_slave.specs.Code.Serving.{step_from, carried_from, Serves}

-- the step of slave s from its slot x after rule 1
unfoldable pub step_at : Board → State → ℕ → Slot → Step
step_at b st s x = step_from (master_at b x.owner) (slave_at b s) (transfer_at st x.owner) x

-- its bytes
unfoldable pub carried_at : Board → State → ℕ → Slot → ℕ → Store → Store
carried_at b st s x start d = carried_from (master_at b x.owner) (slave_at b s) (transfer_at st x.owner) x start d

-- its latency (rule 4.16)
unfoldable pub latency_behind : Board → State → ℕ → Slot → ℕ
latency_behind b st s x = latency_of (slave_at b s) (transfer_at st x.owner)

-- the state behind an access of master m (rules 4.9, 4.16): where it is the last one, the transfer ends, or its latency begins
unfoldable pub ended_transfer : State → ℕ → Bool → ℕ → State
ended_transfer st m last latency =
    cond last (cond (eqb latency 0) (with_transfer st m no_transfer) (with_late st m latency)) st

-- the state with slave s after its step from x
unfoldable pub state_stepped : Board → State → ℕ → Slot → State
state_stepped b st s x =
    ended_transfer (with_slot st s (step_at b st s x).slot) x.owner (step_at b st s x).last (latency_behind b st s x)

-- a slave that serves after rule 1
pub record Serving (b : Board) (st : State) (s : ℕ) (x : Slot) (start : ℕ) (d : Store) : Type 0 where
  pub slave : s < 16
  pub owner : x.owner < 8
  pub serves : Serves (master_at b x.owner) (slave_at b s) (transfer_at st x.owner) x start d

-- slave s can have its clock: it rests after rule 1, or serves
pub record Ready (b : Board) (st : State) (s mask start : ℕ) (d : Store) : Type 0 where
  pub slave : s < 16
  pub small : mask < 256
  pub serves : (slot_asked b st s mask).serving ≡ true → Serving b st s (slot_asked b st s mask) start d

-- slave s has had its clock from the slot x: the state, the lines, the bit answered and the bytes e left of d
pub record SlaveClocked (b : Board) (before after : State) (s : ℕ) (x : Slot) (start : ℕ) (lines shown : List Line) (r : ℕ)
    (d e : Store) : Type 0 where
  pub state : after ≡ state_stepped b before s x
  pub shows : shown ≡ set lines s (step_at b before s x).line
  pub weight : r ≡ cond ((step_at b before s x).last && eqb (latency_behind b before s x) 0) (2 ^ x.owner) 0
  pub store : e ≡ carried_at b before s x start d
