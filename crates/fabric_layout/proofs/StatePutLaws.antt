-- A state and lines that a loop puts record by record; the state of a reset.
-- Assumes nothing.
use mathlib.Core.Path.{◌≡◌, refl, ap, ◌∙◌}
use mathlib.Core.Bool.{Bool, true, false, cond}
use mathlib.Core.List.{List}
use Prim.Native.Nat.{ℕ, ◌*◌, ◌+◌, ◌≤◌, ◌<◌}
use lib.Dec.{ltb}
use lib.ListN.{length, get_or, set, replicate}
use borrow.Author.Tests.{lt-ltb, le-ltb}
use Rattle.common_laws.specs.Lists.{table, gather}
use Rattle.common_laws.proofs.TableLaws.{length_table, get_or_table}
use Rattle.common_laws.proofs.FillLaws.{table_is, filled, filled_none}
use Rattle.common_laws.proofs.FrontLaws.{table_same}
use Rattle.fabric_transfer.specs.declared.Transfer.{Transfer}
use Rattle.fabric_transfer.specs.Accesses.{no_transfer}
use Rattle.fabric_state.specs.declared.Slot.{Slot}
use Rattle.fabric_state.specs.declared.Log.{Log}
use Rattle.fabric_state.specs.declared.State.{State}
use Rattle.fabric_state.specs.declared.Line.{Line}
use Rattle.fabric_state.specs.Records.{no_slot, no_line, no_log, transfer_at, slot_at, late_at}
use Rattle.fabric_state.specs.Posting.{with_transfer}
use Rattle.fabric_state.specs.Logging.{with_log}
use Rattle.fabric_state.specs.Resetting.{reset_state}
use Rattle.fabric_layout.specs.Layout.{state_in, transfer_from, slot_from, entry_from, log_from, line_from, lines_in}
use Rattle.fabric_layout.specs.Code.Puts.{with_slot, with_late, first_lines, reset_slot}

module _ (l : List ℕ) where
  pub transfers_length : length (state_in l).transfers ≡ 8
  unfolding state_in
  transfers_length = length_table (λ m. transfer_from l (5 * m)) 8

  pub slots_length : length (state_in l).slots ≡ 16
  unfolding state_in
  slots_length = length_table (λ s. slot_from l (40 + 5 * s)) 16

  pub lates_length : length (state_in l).late ≡ 8
  unfolding state_in
  lates_length = length_table (λ m. get_or l (120 + m) 0) 8

  pub entries_length : length (state_in l).log.entries ≡ 8
  unfolding state_in log_from
  entries_length = length_table (λ i. entry_from l (130 + 3 * i)) 8

  pub lines_length : length (lines_in l) ≡ 16
  unfolding lines_in
  lines_length = length_table (λ s. line_from l (6 * s)) 16

  -- a loop over the transfers, over the slots, over the lines puts f 0, f 1, ..
  pub transfers_begin : (f : ℕ → Transfer) → (state_in l).transfers ≡ filled f (transfer_at (state_in l)) 8 0
  transfers_begin f =
      filled_none f (transfer_at (state_in l)) 8 no_transfer (state_in l).transfers transfers_length (λ i h. refl)

  pub slots_begin : (f : ℕ → Slot) → (state_in l).slots ≡ filled f (slot_at (state_in l)) 16 0
  slots_begin f = filled_none f (slot_at (state_in l)) 16 no_slot (state_in l).slots slots_length (λ i h. refl)

  pub lates_begin : (f : ℕ → ℕ) → (state_in l).late ≡ filled f (late_at (state_in l)) 8 0
  lates_begin f = filled_none f (late_at (state_in l)) 8 0 (state_in l).late lates_length (λ i h. refl)

  -- a loop that clears the lines from n on
  pub clear_begin : (n : ℕ)
      → lines_in l ≡ filled (λ i. cond (ltb i n) (get_or (lines_in l) i no_line) no_line) (λ i. get_or (lines_in l) i no_line) 16 n
  unfolding filled
  clear_begin n = table_is _ 16 no_line (lines_in l) lines_length (λ i h. go i (ltb i n) refl)
    where
      go : (i : ℕ) (c : Bool) → ltb i n ≡ c
          → get_or (lines_in l) i no_line
          ≡ cond (ltb i n) (cond (ltb i n) (get_or (lines_in l) i no_line) no_line) (get_or (lines_in l) i no_line)
      go i true e = rw e
      go i false e = rw e

pub clear_here : (n s : ℕ) (y : Line) → n ≤ s → no_line ≡ cond (ltb s n) y no_line
clear_here n s y h = rw (le-ltb s n h)

pub first_is : (n : ℕ) (lines : List Line) {shown : List Line}
    → shown ≡ table (λ s. cond (ltb s n) (get_or lines s no_line) no_line) 16 → shown ≡ first_lines n lines
unfolding first_lines
first_is n lines e = e

-- the first n lines are put, the others cleared
pub first_put : (f g : ℕ → Line) (n : ℕ) {left shown : List Line} → left ≡ filled f g 16 n → shown ≡ first_lines n left
    → shown ≡ table (λ i. cond (ltb i n) (f i) no_line) 16
unfolding filled first_lines
first_put f g n {left} {shown} e q = q ∙ rw e (table_same _ _ 16 (λ i h. go i h (ltb i n) refl))
  where
    go : (i : ℕ) → i < 16 → (c : Bool) → ltb i n ≡ c
        → cond (ltb i n) (get_or (table (λ k. cond (ltb k n) (f k) (g k)) 16) i no_line) no_line ≡ cond (ltb i n) (f i) no_line
    go i h true c = rw (get_or_table (λ k. cond (ltb k n) (f k) (g k)) 16 no_line i h, c)
    go i h false c = rw c

-- all lines cleared
pub first_none : (lines : List Line) → first_lines 0 lines ≡ replicate 16 no_line
unfolding first_lines table gather
first_none lines = refl

-- what a put changes, and what it leaves
module _ (u v : State) where
  pub transfers_put : (m : ℕ) (t : Transfer) → u ≡ with_transfer v m t → u.transfers ≡ set v.transfers m t
  unfolding with_transfer
  transfers_put m t e = ap (λ (y : State). y.transfers) e

  pub slots_put : (s : ℕ) (x : Slot) → u ≡ with_slot v s x → u.slots ≡ set v.slots s x
  unfolding with_slot
  slots_put s x e = ap (λ (y : State). y.slots) e

  pub transfers_left : (s : ℕ) (x : Slot) → u ≡ with_slot v s x → u.transfers ≡ v.transfers
  unfolding with_slot
  transfers_left s x e = ap (λ (y : State). y.transfers) e

  pub lates_put : (m n : ℕ) → u ≡ with_late v m n → u.late ≡ set v.late m n
  unfolding with_late
  lates_put m n e = ap (λ (y : State). y.late) e

  pub lates_left : (s : ℕ) (x : Slot) → u ≡ with_slot v s x → u.late ≡ v.late
  unfolding with_slot
  lates_left s x e = ap (λ (y : State). y.late) e

  pub lates_held : (m : ℕ) (t : Transfer) → u ≡ with_transfer v m t → u.late ≡ v.late
  unfolding with_transfer
  lates_held m t e = ap (λ (y : State). y.late) e

  pub transfers_late : (m n : ℕ) → u ≡ with_late v m n → u.transfers ≡ v.transfers
  unfolding with_late
  transfers_late m n e = ap (λ (y : State). y.transfers) e

  pub log_held : (m : ℕ) (t : Transfer) → u ≡ with_transfer v m t → u.log ≡ v.log
  unfolding with_transfer
  log_held m t e = ap (λ (y : State). y.log) e

  pub log_left : (s : ℕ) (x : Slot) → u ≡ with_slot v s x → u.log ≡ v.log
  unfolding with_slot
  log_left s x e = ap (λ (y : State). y.log) e

  pub log_late : (m n : ℕ) → u ≡ with_late v m n → u.log ≡ v.log
  unfolding with_late
  log_late m n e = ap (λ (y : State). y.log) e

  pub log_put : (x : Log) → u ≡ with_log v x → u.log ≡ x
  unfolding with_log
  log_put x e = ap (λ (y : State). y.log) e

  pub transfers_logged : (x : Log) → u ≡ with_log v x → u.transfers ≡ v.transfers
  unfolding with_log
  transfers_logged x e = ap (λ (y : State). y.transfers) e

  pub slots_logged : (x : Log) → u ≡ with_log v x → u.slots ≡ v.slots
  unfolding with_log
  slots_logged x e = ap (λ (y : State). y.slots) e

  pub lates_logged : (x : Log) → u ≡ with_log v x → u.late ≡ v.late
  unfolding with_log
  lates_logged x e = ap (λ (y : State). y.late) e

-- ---- a reset

pub idle_all : {l : List Transfer} → l ≡ table (λ k. no_transfer) 8 → l ≡ replicate 8 no_transfer
unfolding table gather
idle_all e = e

pub none_late : {l : List ℕ} → l ≡ table (λ k. 0) 8 → l ≡ replicate 8 0
unfolding table gather
none_late e = e

pub reset_end : (u : State) (owner n : ℕ) → u.transfers ≡ replicate 8 no_transfer → u.slots ≡ table (reset_slot owner n) 16
    → u.late ≡ replicate 8 0 → u.log ≡ no_log → u ≡ reset_state owner n
unfolding reset_state reset_slot
reset_end u owner n t s l g = rw (← t, ← s, ← l, ← g) refl

pub fresh_owned : (owner n s : ℕ) → s < n
    → ◌≡◌ {A = Slot} (record { owner = owner; remaining = 0; serving = Bool.false; done = 0; waited = 0 }) (reset_slot owner n s)
unfolding reset_slot
fresh_owned owner n s h = rw (lt-ltb s n h)

pub fresh_none : (owner n s : ℕ) → n ≤ s → no_slot ≡ reset_slot owner n s
unfolding reset_slot
fresh_none owner n s h = rw (le-ltb s n h)
