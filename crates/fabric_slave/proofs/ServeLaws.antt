-- One slave's clock from its own parts: what each path of the code gives, and that on the parts of a board and a state it is
-- the clock of the definition.
-- Assumes nothing.
use mathlib.Core.Path.{◌≡◌, sym, ap, ◌∙◌}
use mathlib.Core.Bool.{Bool, true, false, cond}
use Prim.Native.Nat.{ℕ, ◌+◌, ◌≤◌, ◌<◌}
use borrow.Author.Tests.{lt-ltb, le-ltb, ltb-true, ltb-false}
use Rattle.description_board.specs.declared.Master.{Master}
use Rattle.description_board.specs.Records.{Slave}
use Rattle.description_board.specs.declared.Board.{Board}
use Rattle.description_board.specs.Records.{master_at, slave_at, start_of}
use Rattle.fabric_transfer.specs.declared.Transfer.{Transfer}
use Rattle.fabric_transfer.specs.Accesses.{word_offset, slave_lanes, accesses, access_number, wait_of}
use Rattle.fabric_transfer.specs.Runs.{place_of, run_of}
use Rattle.fabric_transfer.specs.Bytes.{Store, carried_access}
use Rattle.fabric_transfer.specs.Code.Reaching.{Reached}
use Rattle.fabric_state.specs.declared.Slot.{Slot}
use Rattle.fabric_state.specs.declared.State.{State}
use Rattle.fabric_state.specs.declared.Line.{Line}
use Rattle.fabric_state.specs.declared.Step.{Step}
use Rattle.fabric_state.specs.Records.{no_line, transfer_at}
use Rattle.fabric_state.specs.Control.{slot_after_grant, line_of, waits}
use Rattle.fabric_state.specs.Control.{slot_waiting, slot_accessed, slot_finished, served, step_of}
use Rattle.fabric_state.specs.Carrying.{carried}
use Rattle.fabric_state.proofs.StepLaws.{carries_is}
use Rattle.fabric_slave.specs.Code.Serving.{Placed, step_from, carried_from}

-- a wait is a number of 32 bits, so that waits passed stay one
pub wait_fits : (sl : Slave) (t : Transfer) (n : ℕ) → sl.read_wait < n → sl.write_wait < n → wait_of sl t < n
unfolding wait_of
wait_fits sl t n r w = go t.write
  where
    go : (b : Bool) → cond b sl.write_wait sl.read_wait < n
    go true = w
    go false = r

-- what the answer of the test tells
module _ (sl : Slave) (t : Transfer) (slot : Slot) {waiting : Bool} (e : waiting ≡ waits sl t slot) where
  pub waits_yes : waiting ≡ true → slot.waited < wait_of sl t
  unfolding waits
  waits_yes q = ltb-true slot.waited (wait_of sl t) (sym e ∙ q)

  pub waits_no : waiting ≡ false → wait_of sl t ≤ slot.waited
  unfolding waits
  waits_no q = ltb-false slot.waited (wait_of sl t) (sym e ∙ q)

-- the access in hand, by its number
pub placed_at : (ma : Master) (sl : Slave) (t : Transfer) (k : ℕ) {a : ℕ} → a ≡ access_number ma sl t k
    → Placed ma sl t k (access_number ma sl t k) → Placed ma sl t k a
placed_at ma sl t k e p = rw e p

pub reached_at : (ma : Master) (sl : Slave) (t : Transfer) (k m start : ℕ) (d : Store) {a : ℕ} → a ≡ access_number ma sl t k
    → Reached ma sl t m start (access_number ma sl t k) d → Reached ma sl t m start a d
reached_at ma sl t k m start d e p = rw e p

-- its line, from what the code finds of it
pub line_found : (ma : Master) (sl : Slave) (t : Transfer) (slot : Slot) (phase : ℕ) {a offset lanes run place : ℕ}
    → a ≡ access_number ma sl t slot.done → offset ≡ word_offset ma sl t a → lanes ≡ slave_lanes ma sl t a
    → run ≡ run_of ma sl t slot.done → place ≡ place_of ma sl slot.done
    → ◌≡◌ {A = Line}
    (record { phase = phase; owner = slot.owner; offset = offset; lanes = lanes; run = run; place = place })
    (line_of ma sl t slot phase)
unfolding line_of
line_found ma sl t slot phase e o l r p = rw (o, l, r, p, e)

-- the slot with another service, other accesses done and other waits passed
abbrev pub served_on : Slot → Bool → ℕ → ℕ → Slot
served_on slot on done waited =
    record { owner = slot.owner; remaining = slot.remaining; serving = on; done = done; waited = waited }

module _ (ma : Master) (sl : Slave) (t : Transfer) (slot : Slot) {line : Line} where
  pub step_waiting : slot.waited < wait_of sl t → line ≡ line_of ma sl t slot 1
      → ◌≡◌ {A = Step} (record { slot = slot_waiting slot; line = line; last = false }) (served ma sl t slot)
  unfolding served waits
  step_waiting h f = rw (f, lt-ltb slot.waited (wait_of sl t) h)

  -- the same, if the slot's serving is left as it was
  pub on_waiting : slot.serving ≡ true → slot.waited < wait_of sl t → line ≡ line_of ma sl t slot 1
      → ◌≡◌ {A = Step} (record { slot = served_on slot slot.serving slot.done (slot.waited + 1); line = line; last = false })
      (served ma sl t slot)
  unfolding slot_waiting
  on_waiting on h f =
      ap (λ (b : Bool). record { slot = served_on slot b slot.done (slot.waited + 1); line = line; last = false }) on
      ∙ step_waiting h f

  module _ {n : ℕ} (h : wait_of sl t ≤ slot.waited) (f : line ≡ line_of ma sl t slot 2) (g : n ≡ accesses ma sl t) where
    pub step_working : slot.done + 1 < n
        → ◌≡◌ {A = Step} (record { slot = slot_accessed slot; line = line; last = false }) (served ma sl t slot)
    unfolding served waits
    step_working l = rw (f, le-ltb slot.waited (wait_of sl t) h, lt-ltb (slot.done + 1) (accesses ma sl t) (rw g at l))

    pub on_working : slot.serving ≡ true → slot.done + 1 < n
        → ◌≡◌ {A = Step} (record { slot = served_on slot slot.serving (slot.done + 1) 0; line = line; last = false }) (served ma sl t slot)
    unfolding slot_accessed
    on_working on l =
        ap (λ (b : Bool). record { slot = served_on slot b (slot.done + 1) 0; line = line; last = false }) on ∙ step_working l

    pub step_ending : n ≤ slot.done + 1
        → ◌≡◌ {A = Step} (record { slot = slot_finished slot; line = line; last = true }) (served ma sl t slot)
    unfolding served waits
    step_ending l = rw (f, le-ltb slot.waited (wait_of sl t) h, le-ltb (slot.done + 1) (accesses ma sl t) (rw g at l))

module _ (ma : Master) (sl : Slave) (t : Transfer) (slot : Slot) where
  pub from_serving : slot.serving ≡ true → served ma sl t slot ≡ step_from ma sl t slot
  unfolding step_from
  from_serving e = rw e

  pub from_resting : slot.serving ≡ false
      → ◌≡◌ {A = Step} (record { slot = slot; line = no_line; last = false }) (step_from ma sl t slot)
  unfolding step_from
  from_resting e = rw e

  -- the bytes: a slave that rests or waits moves none
  pub carried_resting : (start : ℕ) (d : Store) → slot.serving ≡ false → d ≡ carried_from ma sl t slot start d
  unfolding carried_from
  carried_resting start d e = rw e

  pub carried_waiting : (start : ℕ) (d : Store) → slot.serving ≡ true → slot.waited < wait_of sl t
      → d ≡ carried_from ma sl t slot start d
  unfolding carried_from waits
  carried_waiting start d on h = rw (on, lt-ltb slot.waited (wait_of sl t) h)

  pub carried_access_lem : (start : ℕ) (d : Store) → slot.serving ≡ true → wait_of sl t ≤ slot.waited
      → {a : ℕ} → a ≡ access_number ma sl t slot.done
      → carried_access ma sl t slot.owner start a d ≡ carried_from ma sl t slot start d
  unfolding carried_from waits
  carried_access_lem start d on h e = rw (on, le-ltb slot.waited (wait_of sl t) h, e)

-- ---- on the parts of a board and a state

module _ (b : Board) (st : State) (s : ℕ) where
  -- the slot after rule 1 is the one to go on from
  pub step_is : {x : Slot} → x ≡ slot_after_grant b st s
      → step_from (master_at b x.owner) (slave_at b s) (transfer_at st x.owner) x ≡ step_of b st s
  unfolding step_from step_of
  step_is e = rw e

  pub carried_is : {x : Slot} → x ≡ slot_after_grant b st s → (d : Store)
      → carried_from (master_at b x.owner) (slave_at b s) (transfer_at st x.owner) x (start_of b s) d ≡ carried b st s d
  unfolding carried_from carried
  carried_is e d = rw (e, carries_is b st s)
