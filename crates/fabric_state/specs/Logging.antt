-- The log of unmapped transfers: what a clock enters in it, and what it is without its oldest entry (rules 4.18, 4.19).
-- Assumes nothing.
use Rattle.std.specs.Prelude.{true, cond, ℕ, zero, suc, ◌+◌, ◌-◌, ltb, set}
use Rattle.common_laws.specs.Lists.{table}
use Rattle.description_board.specs.declared.Board.{Board}
use Rattle.fabric_transfer.specs.declared.Transfer.{Transfer}
use Rattle.fabric_state.specs.declared.Entry.{Entry}
use Rattle.fabric_state.specs.declared.Log.{Log}
use Rattle.fabric_state.specs.declared.State.{State}
use Rattle.fabric_state.specs.Records.{transfer_at, entry_at}
use Rattle.fabric_state.specs.Soundness.{unmapped_at}

-- rule 4.18: the entry of master m's transfer t
abbrev pub entry_of : ℕ → Transfer → Entry
entry_of m t = record { master = m; address = t.address; write = t.write }

-- rule 4.18: one entry more; where eight stand it is dropped, and the lost mark is set
unfoldable pub entered : Log → Entry → Log
entered log e =
    cond (ltb log.count 8)
    (record { count = log.count + 1; lost = log.lost; entries = set log.entries log.count e })
    (record { count = log.count; lost = true; entries = log.entries })

-- rule 4.18: the log with the unmapped transfers of the first n masters entered, by master number
unfoldable pub entered_by : Board → State → ℕ → Log
entered_by b st zero = st.log
entered_by b st (suc n) =
    cond (unmapped_at b st n) (entered (entered_by b st n) (entry_of n (transfer_at st n))) (entered_by b st n)

-- rule 4.18: the log after the clock
unfoldable pub log_after : Board → State → Log
log_after b st = entered_by b st 8

-- rule 4.19: the log without its oldest entry: every other entry is one place down, and the last place is 0, because no entry
-- stands behind the eighth
unfoldable pub without_oldest : Log → Log
without_oldest log = record {
  count = log.count - 1;
  lost = log.lost;
  entries = table (λ i. entry_at log (i + 1)) 8;
}

-- rule 4.19: a state with another log
unfoldable pub with_log : State → Log → State
with_log st l = record { transfers = st.transfers; slots = st.slots; late = st.late; log = l }
