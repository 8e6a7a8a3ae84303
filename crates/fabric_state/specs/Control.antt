-- One clock without the bytes: slots, lines, the masters finished and their responses (rules 4.3 to 4.9, 4.13, 4.16, 4.17).
-- Assumes nothing.
use Rattle.std.specs.Prelude.{Bool, true, false, cond, not, ◌&&◌, ◌||◌, List, ℕ, ◌+◌, ◌-◌, ◌^◌, ltb, eqb, Option, Some, None}
use Rattle.common_laws.specs.Lists.{table, sum, some}
use Rattle.description_board.specs.declared.Master.{Master}
use Rattle.description_board.specs.Records.{Slave}
use Rattle.description_board.specs.declared.Board.{Board}
use Rattle.description_board.specs.Records.{master_at, slave_at, shares_at}
use Rattle.fabric_transfer.specs.declared.Transfer.{Transfer}
use Rattle.fabric_transfer.specs.Accesses.{no_transfer, word_offset, slave_lanes, accesses, access_number, wait_of}
use Rattle.fabric_transfer.specs.Runs.{run_of, place_of}
use Rattle.fabric_arbiter.specs.declared.Arbiter.{Arbiter}
use Rattle.fabric_arbiter.specs.Granting.{granted, arbiter_after}
use Rattle.fabric_state.specs.declared.Slot.{Slot}
use Rattle.fabric_state.specs.declared.State.{State}
use Rattle.fabric_state.specs.declared.Line.{Line}
use Rattle.fabric_state.specs.declared.Step.{Step}
use Rattle.fabric_state.specs.Records.{no_line, transfer_at, slot_at, late_at, arbiter_of}
use Rattle.fabric_state.specs.Soundness.{requests, unmapped_at, latency_at}
use Rattle.fabric_state.specs.Logging.{log_after}

-- rule 1 (rules 4.3 to 4.6): the grant of slave s, which does not serve
unfoldable pub grant_at : Board → State → ℕ → Option Arbiter
grant_at b st s =
    granted b.master_count (requests b st s) (λ m. shares_at b m s) (λ m. (transfer_at st m).beats)
    (arbiter_of (slot_at st s))

-- rule 4.7: the slot by its arbiter a after the grant g: a grant begins a service, with none the slave does not serve
unfoldable pub slot_by : Slot → Arbiter → Option Arbiter → Slot
slot_by slot a (Some after) = record { owner = a.owner; remaining = a.remaining; serving = true; done = 0; waited = 0 }
slot_by slot a None =
    record { owner = a.owner; remaining = a.remaining; serving = false; done = slot.done; waited = slot.waited }

-- rules 4.3 to 4.7: the slot after the grant g
unfoldable pub slot_granted : Slot → Option Arbiter → Slot
slot_granted slot g = slot_by slot (arbiter_after (arbiter_of slot) g) g

-- rule 4.7: slave s after rule 1, before rules 2 and 3: it serves in the clock of its grant
unfoldable pub slot_after_grant : Board → State → ℕ → Slot
slot_after_grant b st s = cond (slot_at st s).serving (slot_at st s) (slot_granted (slot_at st s) (grant_at b st s))

-- rules 4.10, 4.13: a clock's line of the access in hand, which is the one that is carried out behind those done
unfoldable pub line_of : Master → Slave → Transfer → Slot → ℕ → Line
line_of ma sl t slot phase =
    let a = access_number ma sl t slot.done in
    record {
      phase = phase;
      owner = slot.owner;
      offset = word_offset ma sl t a;
      lanes = slave_lanes ma sl t a;
      run = run_of ma sl t slot.done;
      place = place_of ma sl slot.done;
    }

-- rule 2 (rule 4.8): the slave waits
unfoldable pub waits : Slave → Transfer → Slot → Bool
waits sl t slot = ltb slot.waited (wait_of sl t)

-- rule 4.8: one more wait has passed
unfoldable pub slot_waiting : Slot → Slot
slot_waiting slot =
    record { owner = slot.owner; remaining = slot.remaining; serving = true; done = slot.done; waited = slot.waited + 1 }

-- rule 4.8: one more access is done, and others are left
unfoldable pub slot_accessed : Slot → Slot
slot_accessed slot =
    record { owner = slot.owner; remaining = slot.remaining; serving = true; done = slot.done + 1; waited = 0 }

-- rule 3 (rule 4.9): the last access is done
unfoldable pub slot_finished : Slot → Slot
slot_finished slot = record { owner = slot.owner; remaining = slot.remaining; serving = false; done = 0; waited = 0 }

-- rules 4.8, 4.9: rules 2 and 3 at a slave that serves
unfoldable pub served : Master → Slave → Transfer → Slot → Step
served ma sl t slot =
    cond (waits sl t slot)
    (record { slot = slot_waiting slot; line = line_of ma sl t slot 1; last = false })
    (cond (ltb (slot.done + 1) (accesses ma sl t))
    (record { slot = slot_accessed slot; line = line_of ma sl t slot 2; last = false })
    (record { slot = slot_finished slot; line = line_of ma sl t slot 2; last = true }))

-- rules 4.3 to 4.9: one clock of slave s
unfoldable pub step_of : Board → State → ℕ → Step
step_of b st s =
    let slot = slot_after_grant b st s in
    cond slot.serving
    (served (master_at b slot.owner) (slave_at b s) (transfer_at st slot.owner) slot)
    (record { slot = slot; line = no_line; last = false })

-- rule 4.13: a clock's line of slave s; zeros for what is no slave of the board
unfoldable pub line_after : Board → State → ℕ → Line
line_after b st s = cond (ltb s b.slave_count) (step_of b st s).line no_line

-- rule 4.1: the slot of slave s after the clock; that of no slave of the board stays
unfoldable pub slot_after : Board → State → ℕ → Slot
slot_after b st s = cond (ltb s b.slave_count) (step_of b st s).slot (slot_at st s)

-- rule 4.9: slave s carries out the last access of master m in this clock
unfoldable pub ends_at : Board → State → ℕ → ℕ → Bool
ends_at b st m s = (step_of b st s).last && eqb (step_of b st s).line.owner m

-- rule 4.9: the last access of master m is carried out in this clock
unfoldable pub ended : Board → State → ℕ → Bool
ended b st m = some (ends_at b st m) b.slave_count

-- rule 4.16: the latency clocks that master m still has to pass behind this clock: one fewer, or those of the transfer whose last
-- access is carried out in it
unfoldable pub late_after : Board → State → ℕ → ℕ
late_after b st m =
    cond (eqb (late_at st m) 0) (cond (ended b st m) (latency_at b m (transfer_at st m)) 0) (late_at st m - 1)

-- rules 4.9, 4.16: the last access of master m is carried out, now or before, and no latency clock is left
unfoldable pub completed : Board → State → ℕ → Bool
completed b st m = (not (eqb (late_at st m) 0) || ended b st m) && eqb (late_after b st m) 0

-- rules 4.9, 4.13, 4.16, 4.17: master m is finished in this clock: its transfer is unmapped, or completed
unfoldable pub finished : Board → State → ℕ → Bool
finished b st m = unmapped_at b st m || completed b st m

-- rule 4.13: bit m for master m
unfoldable pub mask_of : Board → State → ℕ
mask_of b st = sum (λ m. cond (finished b st m) (2 ^ m) 0) 8

-- rules 3.3, 4.9: a finished master holds nothing, any other what it held
unfoldable pub transfer_after : Board → State → ℕ → Transfer
transfer_after b st m = cond (finished b st m) no_transfer (transfer_at st m)

-- rule 4.1: the state after the clock
unfoldable pub state_after : Board → State → State
state_after b st = record {
  transfers = table (transfer_after b st) 8;
  slots = table (slot_after b st) 16;
  late = table (late_after b st) 8;
  log = log_after b st;
}

-- rules 4.13, 4.17: the response to master m: 3 (DECODEERROR) where its unmapped transfer is finished, else 0 (OKAY)
unfoldable pub response_of : Board → State → ℕ → ℕ
response_of b st m = cond (unmapped_at b st m) 3 0

-- rule 4.13: a clock's responses
unfoldable pub responses_of : Board → State → List ℕ
responses_of b st = table (response_of b st) 8

-- rule 4.13: a clock's lines
unfoldable pub lines_of : Board → State → List Line
lines_of b st = table (line_after b st) 16
