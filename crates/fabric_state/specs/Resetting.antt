-- The state that a reset gives (rule 4.2).
-- Assumes nothing.
use Rattle.std.specs.Prelude.{Bool, cond, ℕ, ◌-◌, ltb, replicate}
use Rattle.common_laws.specs.Lists.{table}
use Rattle.description_board.specs.declared.Board.{Board}
use Rattle.fabric_transfer.specs.Accesses.{no_transfer}
use Rattle.fabric_state.specs.declared.State.{State}
use Rattle.fabric_state.specs.Records.{no_slot, no_log}

-- rule 4.2: no transfer is held, `owner` is the last owner of the first `count` slaves, and all else is 0
unfoldable pub reset_state : ℕ → ℕ → State
reset_state owner count = record {
  transfers = replicate 8 no_transfer;
  slots =
      table
      (λ s. cond (ltb s count) (record { owner = owner; remaining = 0; serving = Bool.false; done = 0; waited = 0 }) no_slot)
      16;
  late = replicate 8 0;
  log = no_log;
}

-- rule 4.2: the state after a reset: the last owner is the board's highest master
unfoldable pub state_at_reset : Board → State
state_at_reset b = reset_state (b.master_count - 1) b.slave_count
