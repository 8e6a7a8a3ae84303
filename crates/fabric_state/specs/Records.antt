-- The state's records, and its elements by number (rules 3.3, 4.1, 4.16, 4.18).
-- Assumes nothing.
use Rattle.std.specs.Prelude.{false, ℕ, get_or, replicate}
use Rattle.fabric_transfer.specs.declared.Transfer.{Transfer}
use Rattle.fabric_transfer.specs.Accesses.{no_transfer}
use Rattle.fabric_arbiter.specs.declared.Arbiter.{Arbiter}
use Rattle.fabric_state.specs.declared.Slot.{Slot}
use Rattle.fabric_state.specs.declared.Entry.{Entry}
use Rattle.fabric_state.specs.declared.Log.{Log}
use Rattle.fabric_state.specs.declared.State.{State}
use Rattle.fabric_state.specs.declared.Line.{Line}

-- a slot of zeros
abbrev pub no_slot : Slot
no_slot = record { owner = 0; remaining = 0; serving = false; done = 0; waited = 0 }

-- rule 4.13: a clock's line of phase 0
abbrev pub no_line : Line
no_line = record { phase = 0; owner = 0; offset = 0; lanes = 0; run = 0; place = 0 }

-- an entry of zeros
abbrev pub no_entry : Entry
no_entry = record { master = 0; address = 0; write = false }

-- rule 4.2: the log after a reset: no entry, and none lost
unfoldable pub no_log : Log
no_log = record { count = 0; lost = false; entries = replicate 8 no_entry }

-- rule 8.1: a state of zeros
unfoldable pub no_state : State
no_state = record { transfers = replicate 8 no_transfer; slots = replicate 16 no_slot; late = replicate 8 0; log = no_log }

-- rule 3.3: the transfer of master m
abbrev pub transfer_at : State → ℕ → Transfer
transfer_at st m = get_or st.transfers m no_transfer

-- rule 4.1: the slot of slave s
abbrev pub slot_at : State → ℕ → Slot
slot_at st s = get_or st.slots s no_slot

-- rule 4.16: the latency clocks that master m still has to pass
abbrev pub late_at : State → ℕ → ℕ
late_at st m = get_or st.late m 0

-- rule 4.18: entry i of a log, from 0
abbrev pub entry_at : Log → ℕ → Entry
entry_at log i = get_or log.entries i no_entry

-- rule 4.1: a slave's arbiter: its last owner, and the grants that remain to that owner
abbrev pub arbiter_of : Slot → Arbiter
arbiter_of slot = record { owner = slot.owner; remaining = slot.remaining }
