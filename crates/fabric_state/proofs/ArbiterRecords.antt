-- A clock changes a slave's last owner and remaining grants by rule 1, once, and by no other rule.
-- Assumes nothing.
use mathlib.Core.Path.{◌≡◌, refl, ◌∙◌, ap}
use mathlib.Core.Bool.{Bool, true, false}
use Prim.Native.Nat.{ℕ, ◌≤◌, ◌<◌}
use Rattle.std.specs.Prelude.{Option, Some, None}
use Rattle.description_board.specs.declared.Board.{Board}
use Rattle.fabric_arbiter.specs.declared.Arbiter.{Arbiter}
use Rattle.fabric_arbiter.specs.Granting.{arbiter_after}
use Rattle.fabric_state.specs.declared.Slot.{Slot}
use Rattle.fabric_state.specs.declared.State.{State}
use Rattle.fabric_state.specs.Records.{slot_at, arbiter_of}
use Rattle.fabric_state.specs.Control.{slot_by, slot_granted, slot_after_grant, slot_waiting, slot_accessed, slot_finished}
use Rattle.fabric_state.specs.Control.{step_of, state_after, grant_at}
use Rattle.fabric_state.specs.ArbiterRecords.{arbiter_after_clock}
use Rattle.fabric_state.proofs.StateLaws.{slot_after_lem}
use Rattle.fabric_state.proofs.StepLaws.{Outcome, rests, waiting, works, ends, outcome, grant_serving, grant_given}

-- rule 1 changes a slot's arbiter as the arbiter's own rule says
pub granted_record : (slot : Slot) (g : Option Arbiter) → arbiter_of (slot_granted slot g) ≡ arbiter_after (arbiter_of slot) g
unfolding slot_granted slot_by
granted_record slot (Some after) = refl
granted_record slot None = refl

-- rules 2 and 3 leave the arbiter
step_record : (b : Board) (st : State) (s : ℕ) → arbiter_of (step_of b st s).slot ≡ arbiter_of (slot_after_grant b st s)
unfolding slot_waiting slot_accessed slot_finished
step_record b st s = go (outcome b st s)
  where
    go : Outcome b st s → arbiter_of (step_of b st s).slot ≡ arbiter_of (slot_after_grant b st s)
    go (rests e q) = rw q
    go (waiting e w q) = rw q
    go (works e w l q) = rw q
    go (ends e w l q) = rw q

-- rule 1 at slave s
grant_record : (b : Board) (st : State) (s : ℕ) → arbiter_of (slot_after_grant b st s) ≡ arbiter_after_clock b st s
unfolding arbiter_after_clock
grant_record b st s = go (slot_at st s).serving refl
  where
    go : (c : Bool) → (slot_at st s).serving ≡ c → arbiter_of (slot_after_grant b st s) ≡ arbiter_after_clock b st s
    go true e = rw e (ap arbiter_of (grant_serving b st s e))
    go false e = rw e (ap arbiter_of (grant_given b st s e) ∙ granted_record (slot_at st s) (grant_at b st s))

-- one clock changes a slave's last owner and remaining grants by rules 4.3 to 4.6, and by no others
pub record_changed : (b : Board) (st : State) (s : ℕ) → s < b.slave_count → b.slave_count ≤ 16
    → arbiter_of (slot_at (state_after b st) s) ≡ arbiter_after_clock b st s
record_changed b st s l few = ap arbiter_of (slot_after_lem b st s l few) ∙ (step_record b st s ∙ grant_record b st s)
