-- What a clock answers (rules 4.13, 8.1).
-- Assumes nothing.
use Rattle.std.specs.Prelude.{ℕ, replicate}
use Rattle.description_board.specs.declared.Board.{Board}
use Rattle.fabric_state.specs.declared.State.{State}
use Rattle.fabric_state.specs.declared.Clocked.{Clocked}
use Rattle.fabric_state.specs.Records.{no_line}
use Rattle.fabric_state.specs.Control.{mask_of, responses_of, state_after, lines_of}

-- rule 4.13: mask, responses and lines of a clock that is not refused; and the state after it
abbrev pub clocked_of : Board → State → Clocked
clocked_of b st =
    record { number = 0; state = state_after b st; mask = mask_of b st; responses = responses_of b st; lines = lines_of b st }

-- rule 8.1: a refused clock: its number, the state as it was, no mask, responses and lines of zeros
abbrev pub refused_clock : ℕ → State → Clocked
refused_clock n st = record { number = n; state = st; mask = 0; responses = replicate 8 0; lines = replicate 16 no_line }
