-- A state and a clock's lines as arrays of numbers, one u32 for each field (rules 2.4, 4.13).
-- Every array of numbers is a state, or lines: what the numbers mean is said for each of them, and the rules refuse what is out
-- of range.
-- Assumes nothing.
use Rattle.std.specs.Prelude.{List, ℕ, ◌+◌, ◌*◌, get_or}
use Rattle.common_laws.specs.Lists.{table}
use Rattle.description_layout.specs.Layout.{marked}
use Rattle.fabric_transfer.specs.declared.Transfer.{Transfer}
use Rattle.fabric_state.specs.declared.Slot.{Slot}
use Rattle.fabric_state.specs.declared.Entry.{Entry}
use Rattle.fabric_state.specs.declared.Log.{Log}
use Rattle.fabric_state.specs.declared.State.{State}
use Rattle.fabric_state.specs.declared.Line.{Line}

-- rule 2.4: five numbers from index p on are a transfer
unfoldable pub transfer_from : List ℕ → ℕ → Transfer
transfer_from l p = record {
  held = marked (get_or l p 0);
  write = marked (get_or l (p + 1) 0);
  address = get_or l (p + 2) 0;
  lanes = get_or l (p + 3) 0;
  beats = get_or l (p + 4) 0;
}

-- rule 2.4: five numbers from index p on are a slot
unfoldable pub slot_from : List ℕ → ℕ → Slot
slot_from l p = record {
  owner = get_or l p 0;
  remaining = get_or l (p + 1) 0;
  serving = marked (get_or l (p + 2) 0);
  done = get_or l (p + 3) 0;
  waited = get_or l (p + 4) 0;
}

-- rule 2.4: three numbers from index p on are an entry of the log
unfoldable pub entry_from : List ℕ → ℕ → Entry
entry_from l p = record { master = get_or l p 0; address = get_or l (p + 1) 0; write = marked (get_or l (p + 2) 0) }

-- rule 2.4: 26 numbers from index p on are the log: its count, its lost mark, 8 entries
unfoldable pub log_from : List ℕ → ℕ → Log
log_from l p = record {
  count = get_or l p 0;
  lost = marked (get_or l (p + 1) 0);
  entries = table (λ i. entry_from l (p + 2 + 3 * i)) 8;
}

-- rule 2.4: the state: 8 transfers, then 16 slots, then 8 masters' latency clocks to pass, then the log
unfoldable pub state_in : List ℕ → State
state_in l = record {
  transfers = table (λ m. transfer_from l (5 * m)) 8;
  slots = table (λ s. slot_from l (40 + 5 * s)) 16;
  late = table (λ m. get_or l (120 + m) 0) 8;
  log = log_from l 128;
}

-- rule 4.13: six numbers from index p on are a clock's line
unfoldable pub line_from : List ℕ → ℕ → Line
line_from l p = record {
  phase = get_or l p 0;
  owner = get_or l (p + 1) 0;
  offset = get_or l (p + 2) 0;
  lanes = get_or l (p + 3) 0;
  run = get_or l (p + 4) 0;
  place = get_or l (p + 5) 0;
}

-- rule 4.13: a clock's lines in 96 numbers
unfoldable pub lines_in : List ℕ → List Line
lines_in l = table (λ s. line_from l (6 * s)) 16
