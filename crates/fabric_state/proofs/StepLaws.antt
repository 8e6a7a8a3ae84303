-- One clock of one slave, by cases: the grant, and whether the slave rests, waits, carries out an access or its last one.
-- Assumes nothing.
use mathlib.Core.Path.{◌≡◌, refl, sym, ◌∙◌}
use mathlib.Core.Bool.{Bool, true, false, not, ◌&&◌, false≢true, true≢false}
use Prim.Native.Nat.{ℕ, ◌+◌, ◌≤◌, ◌<◌}
use lib.Dec.{ltb}
use borrow.Author.Tests.{lt-ltb, le-ltb, ltb-true, ltb-false}
use Rattle.description_board.specs.declared.Board.{Board}
use Rattle.description_board.specs.Records.{master_at, slave_at}
use Rattle.fabric_transfer.specs.Accesses.{accesses, wait_of}
use Rattle.fabric_state.specs.declared.Slot.{Slot}
use Rattle.fabric_state.specs.declared.State.{State}
use Rattle.fabric_state.specs.declared.Line.{Line}
use Rattle.fabric_state.specs.Records.{no_line, transfer_at, slot_at}
use Rattle.fabric_state.specs.Control.{grant_at, slot_granted, slot_after_grant, line_of, waits}
use Rattle.fabric_state.specs.Control.{slot_waiting, slot_accessed, slot_finished, served, step_of}
use Rattle.fabric_state.specs.Carrying.{carries_out}

-- of the transfer in service after rule 1: its wait, its accesses, its line
abbrev pub wait_now : Board → State → ℕ → ℕ
wait_now b st s = wait_of (slave_at b s) (transfer_at st (slot_after_grant b st s).owner)

abbrev pub accesses_now : Board → State → ℕ → ℕ
accesses_now b st s =
    accesses (master_at b (slot_after_grant b st s).owner) (slave_at b s) (transfer_at st (slot_after_grant b st s).owner)

abbrev pub line_now : Board → State → ℕ → ℕ → Line
line_now b st s phase =
    line_of (master_at b (slot_after_grant b st s).owner) (slave_at b s) (transfer_at st (slot_after_grant b st s).owner)
    (slot_after_grant b st s) phase

-- what the step is, by cases
pub data Outcome (b : Board) (st : State) (s : ℕ) : Type 0 where
  rests : (slot_after_grant b st s).serving ≡ false
      → step_of b st s ≡ record { slot = slot_after_grant b st s; line = no_line; last = false } → Outcome b st s
  waiting : (slot_after_grant b st s).serving ≡ true → (slot_after_grant b st s).waited < wait_now b st s
      → step_of b st s ≡ record { slot = slot_waiting (slot_after_grant b st s); line = line_now b st s 1; last = false }
      → Outcome b st s
  works : (slot_after_grant b st s).serving ≡ true → wait_now b st s ≤ (slot_after_grant b st s).waited
      → (slot_after_grant b st s).done + 1 < accesses_now b st s
      → step_of b st s ≡ record { slot = slot_accessed (slot_after_grant b st s); line = line_now b st s 2; last = false }
      → Outcome b st s
  ends : (slot_after_grant b st s).serving ≡ true → wait_now b st s ≤ (slot_after_grant b st s).waited
      → accesses_now b st s ≤ (slot_after_grant b st s).done + 1
      → step_of b st s ≡ record { slot = slot_finished (slot_after_grant b st s); line = line_now b st s 2; last = true }
      → Outcome b st s

module _ (b : Board) (st : State) (s : ℕ) where
  pub grant_serving : (slot_at st s).serving ≡ true → slot_after_grant b st s ≡ slot_at st s
  unfolding slot_after_grant
  grant_serving e = rw e

  pub grant_given : (slot_at st s).serving ≡ false → slot_after_grant b st s ≡ slot_granted (slot_at st s) (grant_at b st s)
  unfolding slot_after_grant
  grant_given e = rw e

  pub step_rests : (slot_after_grant b st s).serving ≡ false
      → step_of b st s ≡ record { slot = slot_after_grant b st s; line = no_line; last = false }
  unfolding step_of
  step_rests e = rw e

  pub step_waits : (slot_after_grant b st s).serving ≡ true → (slot_after_grant b st s).waited < wait_now b st s
      → step_of b st s ≡ record { slot = slot_waiting (slot_after_grant b st s); line = line_now b st s 1; last = false }
  unfolding step_of served waits
  step_waits e h = rw (e, lt-ltb (slot_after_grant b st s).waited (wait_now b st s) h)

  pub step_works : (slot_after_grant b st s).serving ≡ true → wait_now b st s ≤ (slot_after_grant b st s).waited
      → (slot_after_grant b st s).done + 1 < accesses_now b st s
      → step_of b st s ≡ record { slot = slot_accessed (slot_after_grant b st s); line = line_now b st s 2; last = false }
  unfolding step_of served waits
  step_works e h l =
      rw (
        e,
        le-ltb (slot_after_grant b st s).waited (wait_now b st s) h,
        lt-ltb ((slot_after_grant b st s).done + 1) (accesses_now b st s) l,
      )

  pub step_ends : (slot_after_grant b st s).serving ≡ true → wait_now b st s ≤ (slot_after_grant b st s).waited
      → accesses_now b st s ≤ (slot_after_grant b st s).done + 1
      → step_of b st s ≡ record { slot = slot_finished (slot_after_grant b st s); line = line_now b st s 2; last = true }
  unfolding step_of served waits
  step_ends e h l =
      rw (
        e,
        le-ltb (slot_after_grant b st s).waited (wait_now b st s) h,
        le-ltb ((slot_after_grant b st s).done + 1) (accesses_now b st s) l,
      )

  pub outcome : Outcome b st s
  outcome = go (slot_after_grant b st s).serving refl (ltb (slot_after_grant b st s).waited (wait_now b st s)) refl
      (ltb ((slot_after_grant b st s).done + 1) (accesses_now b st s)) refl
    where
      go : (c : Bool) → (slot_after_grant b st s).serving ≡ c → (d : Bool)
          → ltb (slot_after_grant b st s).waited (wait_now b st s) ≡ d → (f : Bool)
          → ltb ((slot_after_grant b st s).done + 1) (accesses_now b st s) ≡ f → Outcome b st s
      go false e d h f l = rests e (step_rests e)
      go true e true h f l = let w = ltb-true _ _ h in waiting e w (step_waits e w)
      go true e false h true l = let w = ltb-false _ _ h in let a = ltb-true _ _ l in works e w a (step_works e w a)
      go true e false h false l = let w = ltb-false _ _ h in let a = ltb-false _ _ l in ends e w a (step_ends e w a)

  -- the line of a slave that serves names its owner
  pub line_owner : (slot_after_grant b st s).serving ≡ true → (step_of b st s).line.owner ≡ (slot_after_grant b st s).owner
  unfolding line_of
  line_owner f = go outcome
    where
      go : Outcome b st s → (step_of b st s).line.owner ≡ (slot_after_grant b st s).owner
      go (rests e q) = absurd (true≢false (sym f ∙ e))
      go (waiting e h q) = rw q
      go (works e h l q) = rw q
      go (ends e h l q) = rw q

  -- a slave carries out an access if it serves and does not wait
  pub carries_is : let slot = slot_after_grant b st s in
      carries_out b st s ≡ slot.serving && not (waits (slave_at b s) (transfer_at st slot.owner) slot)
  unfolding carries_out line_of waits
  carries_is = go outcome
    where
      slot : Slot
      slot = slot_after_grant b st s

      go : Outcome b st s → carries_out b st s ≡ slot.serving && not (waits (slave_at b s) (transfer_at st slot.owner) slot)
      go (rests e q) = rw (q, e)
      go (waiting e h q) = rw (q, e, lt-ltb (slot_after_grant b st s).waited (wait_now b st s) h)
      go (works e h l q) = rw (q, e, le-ltb (slot_after_grant b st s).waited (wait_now b st s) h)
      go (ends e h l q) = rw (q, e, le-ltb (slot_after_grant b st s).waited (wait_now b st s) h)

  -- a slave that carries out a last access has served
  pub last_serving : (step_of b st s).last ≡ true → (slot_after_grant b st s).serving ≡ true
  last_serving f = go outcome
    where
      go : Outcome b st s → (slot_after_grant b st s).serving ≡ true
      go (rests e q) = absurd (false≢true (rw q at f))
      go (waiting e h q) = e
      go (works e h l q) = e
      go (ends e h l q) = e
