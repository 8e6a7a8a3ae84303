-- Gives the code of fabric_grant its shape: rule 1 (rules 4.3 to 4.7) at one slave, by a mask of who requests it.
-- The code's form of `grant_at` and `slot_after_grant`.
-- Assumes nothing.
use Rattle.std.specs.Prelude.{cond, ℕ, Option}
use Rattle.common_laws.specs.Bits.{bit}
use Rattle.description_board.specs.declared.Board.{Board}
use Rattle.description_board.specs.Records.{shares_at}
use Rattle.fabric_arbiter.specs.declared.Arbiter.{Arbiter}
use Rattle.fabric_arbiter.specs.Granting.{granted, arbiter_after}
use Rattle.fabric_state.specs.declared.Slot.{Slot}
use Rattle.fabric_state.specs.declared.State.{State}
use Rattle.fabric_state.specs.Records.{transfer_at, slot_at, arbiter_of}
use Rattle.fabric_state.specs.Control.{slot_granted}
use Rattle.fabric_grant.specs.declared.Arbitrated.{Arbitrated}

-- the grant of slave s, whose arbiter is a (rules 4.3 to 4.6)
unfoldable pub grant_chosen : Arbiter → Board → State → ℕ → ℕ → Option Arbiter
grant_chosen a b st s mask =
    granted b.master_count (bit mask) (λ m. shares_at b m s) (λ m. (transfer_at st m).beats) a

-- the arbiter that was a, and its grant
unfoldable pub arbitrated : Arbiter → Option Arbiter → Arbitrated
arbitrated a g = record { arbiter = arbiter_after a g; grant = g }

-- slave s after rule 1 (rules 4.3 to 4.7)
unfoldable pub slot_asked : Board → State → ℕ → ℕ → Slot
slot_asked b st s mask =
    cond (slot_at st s).serving (slot_at st s)
    (slot_granted (slot_at st s) (grant_chosen (arbiter_of (slot_at st s)) b st s mask))
