-- How one clock changes a slave's arbiter (rules 4.3 to 4.6).
-- Assumes nothing.
use Rattle.std.specs.Prelude.{cond, ℕ}
use Rattle.description_board.specs.declared.Board.{Board}
use Rattle.fabric_arbiter.specs.declared.Arbiter.{Arbiter}
use Rattle.fabric_arbiter.specs.Granting.{arbiter_after}
use Rattle.fabric_state.specs.declared.State.{State}
use Rattle.fabric_state.specs.Records.{slot_at, arbiter_of}
use Rattle.fabric_state.specs.Control.{grant_at}

-- rules 4.3 to 4.6 where slave s does not serve; where it serves, its arbiter stays
unfoldable pub arbiter_after_clock : Board → State → ℕ → Arbiter
arbiter_after_clock b st s =
    cond (slot_at st s).serving (arbiter_of (slot_at st s)) (arbiter_after (arbiter_of (slot_at st s)) (grant_at b st s))
