-- Gives the code of fabric_layout and fabric_cycle its shape: what is put into the arrays of a state and of a clock's lines.
-- Assumes nothing.
use Rattle.std.specs.Prelude.{◌≡◌, Bool, cond, List, [], ◌∷◌, ℕ, ◌+◌, ◌*◌, ltb, get_or, set}
use Rattle.std.proofs.lemmas.List.Edits.{sets}
use Rattle.common_laws.specs.Bits.{bit}
use Rattle.common_laws.specs.Lists.{table}
use Rattle.fabric_transfer.specs.declared.Transfer.{Transfer}
use Rattle.fabric_state.specs.declared.Slot.{Slot}
use Rattle.fabric_state.specs.declared.Entry.{Entry}
use Rattle.fabric_state.specs.declared.State.{State}
use Rattle.fabric_state.specs.declared.Line.{Line}
use Rattle.fabric_state.specs.Records.{no_line, no_slot}
use Rattle.fabric_state.specs.Posting.{with_transfer}
use Rattle.fabric_state.specs.Logging.{with_log}
use Rattle.fabric_layout.specs.Layout.{state_in}
use Rattle.fabric_layout.specs.Numbers.{transfer_put, Marks}

-- a state with one slot set. With a transfer set: `Posting.with_transfer`
unfoldable pub with_slot : State → ℕ → Slot → State
with_slot st s x = record { transfers = st.transfers; slots = set st.slots s x; late = st.late; log = st.log }

-- and with the latency clocks of one master
unfoldable pub with_late : State → ℕ → ℕ → State
with_late st m n = record { transfers = st.transfers; slots = st.slots; late = set st.late m n; log = st.log }

-- and with one entry of the log
unfoldable pub with_entry : State → ℕ → Entry → State
with_entry st i e =
    with_log st (record { count = st.log.count; lost = st.log.lost; entries = set st.log.entries i e })

-- rules 4.13, 4.17: the responses of a clock, by a mask of who has an unmapped transfer
unfoldable pub responses_for : ℕ → List ℕ
responses_for mask = table (λ m. cond (bit mask m) 3 0) 8

-- of a clock's 16 lines, those from n on show nothing
unfoldable pub first_lines : ℕ → List Line → List Line
first_lines n lines = table (λ s. cond (ltb s n) (get_or lines s no_line) no_line) 16

-- rule 4.2: the slot of slave s after a reset: `owner` is the last owner of the first n slaves
unfoldable pub reset_slot : ℕ → ℕ → ℕ → Slot
reset_slot owner n s =
    cond (ltb s n) (record { owner = owner; remaining = 0; serving = Bool.false; done = 0; waited = 0 }) no_slot

-- the numbers of entry i become those of the next, number for number
unfoldable pub entry_moved : List ℕ → ℕ → List ℕ
entry_moved l i =
    let p = 130 + 3 * i in sets l p (get_or l (p + 3) 0 ∷ get_or l (p + 3 + 1) 0 ∷ get_or l (p + 3 + 2) 0 ∷ [])

-- what a put leaves of a state's numbers: the state x, and marks that are what they were, or 0 or 1
pub record Leaves (before after : List ℕ) (x : State) : Type 0 where
  pub state : state_in after ≡ x
  pub marks : Marks before after

-- and of a transfer
pub record TransferPut (before after : List ℕ) (m : ℕ) (t : Transfer) : Type 0 where
  pub state : state_in after ≡ with_transfer (state_in before) m t
  pub marks : Marks before after
  pub numbers : after ≡ transfer_put before m t
