-- The numbers that calls put into a lent state: a mark is put as 0 or 1, every other number as it is (rule 2.4). What the numbers of
-- an array mean: `Layout`.
-- Assumes nothing.
use Rattle.std.specs.Prelude.{◌≡◌, cond, List, [], ◌∷◌, ◌++◌, ◌⊎◌, ℕ, ◌+◌, ◌-◌, ◌*◌, ◌≤◌, ◌<◌, ltb, eqb, get_or}
use Rattle.std.proofs.lemmas.List.Edits.{sets}
use Rattle.common_laws.specs.Lists.{gather, table}
use Rattle.description_layout.specs.Layout.{mark_of}
use Rattle.fabric_transfer.specs.declared.Transfer.{Transfer}
use Rattle.fabric_state.specs.declared.Slot.{Slot}
use Rattle.fabric_state.specs.declared.Entry.{Entry}
use Rattle.fabric_state.specs.declared.State.{State}
use Rattle.fabric_state.specs.Records.{transfer_at, slot_at, late_at, entry_at}

-- rule 2.4: the numbers of a transfer, of a slot, of an entry of the log
abbrev pub numbers_of_transfer : Transfer → List ℕ
numbers_of_transfer t = mark_of t.held ∷ mark_of t.write ∷ t.address ∷ t.lanes ∷ t.beats ∷ []

abbrev pub numbers_of_slot : Slot → List ℕ
numbers_of_slot x = x.owner ∷ x.remaining ∷ mark_of x.serving ∷ x.done ∷ x.waited ∷ []

abbrev pub numbers_of_entry : Entry → List ℕ
numbers_of_entry e = e.master ∷ e.address ∷ mark_of e.write ∷ []

-- rule 2.4: the numbers of a state
unfoldable pub numbers_of_state : State → List ℕ
numbers_of_state st =
    gather (λ m. numbers_of_transfer (transfer_at st m)) 8
    ++ gather (λ s. numbers_of_slot (slot_at st s)) 16
    ++ table (late_at st) 8
    ++ (st.log.count ∷ mark_of st.log.lost ∷ [])
    ++ gather (λ i. numbers_of_entry (entry_at st.log i)) 8

-- rules 2.4, 3.3: the transfer of master m becomes t: its five numbers are put, all others stay
unfoldable pub transfer_put : List ℕ → ℕ → Transfer → List ℕ
transfer_put l m t = sets l (5 * m) (numbers_of_transfer t)

-- rules 2.4, 4.19: the log without its oldest entry: the count is one fewer, each number of an entry is that of the next entry, those
-- of the last are 0, and all others stay
unfoldable pub oldest_removed : List ℕ → List ℕ
oldest_removed l =
    table (λ i. cond (eqb i 128) (get_or l 128 0 - 1) (cond (ltb i 130) (get_or l i 0) (get_or l (i + 3) 0))) 154

-- rule 2.4: the number at index i is what it was, or 0 or 1
abbrev pub MarkKept : List ℕ → List ℕ → ℕ → Type 0
MarkKept before after i = (get_or after i 0 ≡ get_or before i 0) ⊎ (get_or after i 0 ≤ 1)

-- rule 2.4: so is the number of each mark of a state
pub record Marks (before after : List ℕ) : Type 0 where
  pub held : (m : ℕ) → m < 8 → MarkKept before after (5 * m)
  pub write : (m : ℕ) → m < 8 → MarkKept before after (5 * m + 1)
  pub serving : (s : ℕ) → s < 16 → MarkKept before after (40 + 5 * s + 2)
  pub lost : MarkKept before after 129
  pub entries : (i : ℕ) → i < 8 → MarkKept before after (130 + 3 * i + 2)
