-- Who requests a slave (rules 4.3, 4.16), who holds an unmapped transfer (rule 4.17), and which states break a rule (rule 7.9).
-- Assumes nothing.
use Rattle.std.specs.Prelude.{Bool, cond, ◌&&◌, ℕ, ltb, leb, eqb}
use Rattle.common_laws.specs.Lists.{every}
use Rattle.description_board.specs.declared.Master.{Master}
use Rattle.description_board.specs.Records.{Slave}
use Rattle.description_board.specs.declared.Board.{Board}
use Rattle.description_board.specs.Records.{master_at, slave_at, shares_at}
use Rattle.fabric_transfer.specs.declared.Transfer.{Transfer}
use Rattle.fabric_transfer.specs.Decoding.{selects, target_of}
use Rattle.fabric_transfer.specs.Accesses.{accesses, wait_of, latency_of}
use Rattle.fabric_state.specs.declared.Slot.{Slot}
use Rattle.fabric_state.specs.declared.Log.{Log}
use Rattle.fabric_state.specs.declared.State.{State}
use Rattle.fabric_state.specs.Records.{transfer_at, slot_at, late_at}
use Rattle.fabric_state.specs.Posting.{is_unmapped, transfer_refusal}

-- rule 3.6: master m holds a transfer for slave s
unfoldable pub holds_for : Board → State → ℕ → ℕ → Bool
holds_for b st s m = (transfer_at st m).held && selects b m (transfer_at st m).address s

-- rules 4.3, 4.16: master m is a requester of slave s: it has no latency clocks to pass
unfoldable pub requests : Board → State → ℕ → ℕ → Bool
requests b st s m = eqb (late_at st m) 0 && holds_for b st s m

-- rule 4.17: master m holds an unmapped transfer
unfoldable pub unmapped_at : Board → State → ℕ → Bool
unmapped_at b st m = (transfer_at st m).held && is_unmapped b m (transfer_at st m)

-- rules 4.16, 4.17: the clocks between the last access of master m's transfer t and its finish, at the slave that it is for; an
-- unmapped one has none
unfoldable pub latency_at : Board → ℕ → Transfer → ℕ
latency_at b m t = cond (is_unmapped b m t) 0 (latency_of (slave_at b (target_of b m t.address)) t)

-- rule 7.9: a transfer t that is held is of a master of the board, none of 7.13 to 7.17 holds of it, and the latency clocks to pass
-- are no more than it has; with none held there are no such clocks
unfoldable pub sound_held : Board → ℕ → Transfer → ℕ → Bool
sound_held b m t late =
    cond t.held
    (ltb m b.master_count && (eqb (transfer_refusal b m t) 0 && leb late (latency_at b m t)))
    (eqb late 0)

-- rule 7.9: the transfer of master m
unfoldable pub sound_transfer : Board → State → ℕ → Bool
sound_transfer b st m = sound_held b m (transfer_at st m) (late_at st m)

-- rule 7.9: the last owner is a master of the board
unfoldable pub sound_owner : Board → Slot → Bool
sound_owner b slot = ltb slot.owner b.master_count

-- rule 7.9: the grants that remain are fewer than the owner's shares, and 0 where it has none
unfoldable pub sound_remaining : ℕ → Slot → Bool
sound_remaining shares slot = cond (eqb shares 0) (eqb slot.remaining 0) (ltb slot.remaining shares)

-- rule 7.9: a slave that serves has accesses left, and has not passed more waits than its wait; `asks`: its owner, ma, requests
-- it with the transfer t
unfoldable pub sound_service : Bool → Master → Slave → Transfer → Slot → Bool
sound_service asks ma sl t slot = asks && (ltb slot.done (accesses ma sl t) && leb slot.waited (wait_of sl t))

-- rule 7.9: a slave that does not serve has no accesses done and no waits passed
unfoldable pub sound_rest : Slot → Bool
sound_rest slot = eqb slot.done 0 && eqb slot.waited 0

-- rule 7.9: a slot whose last owner is a master, by that owner's shares here and its transfer
unfoldable pub sound_slot_by : ℕ → Bool → Master → Slave → Transfer → Slot → Bool
sound_slot_by shares asks ma sl t slot =
    sound_remaining shares slot && cond slot.serving (sound_service asks ma sl t slot) (sound_rest slot)

-- rule 7.9: the slot of slave s
unfoldable pub sound_slot : Board → State → ℕ → Bool
sound_slot b st s =
    let slot = slot_at st s in
    let m = slot.owner in
    sound_owner b slot && sound_slot_by (shares_at b m s) (requests b st s m) (master_at b m) (slave_at b s) (transfer_at st m) slot

-- rules 4.18, 7.9: the log's count is eight or fewer
unfoldable pub sound_log : Log → Bool
sound_log log = leb log.count 8

-- rule 7.9: the state breaks no rule
unfoldable pub sound : Board → State → Bool
sound b st = every (sound_transfer b st) 8 && (every (sound_slot b st) b.slave_count && sound_log st.log)
