-- A claim about clocks: of a write, a slave with bus sizing shows no access without a lane, waited for or carried out (rules
-- 4.10, 4.13, 4.14). `lanes_shown` proves it of every board, state, memory and buffer.
-- Assumes nothing.
use Rattle.std.specs.Prelude.{◌≡◌, true, false, List, ◌≢◌, ℕ, ◌≤◌, ◌<◌, get_or}
use Rattle.description_board.specs.declared.Board.{Board}
use Rattle.description_board.specs.Records.{slave_at, is_native}
use Rattle.fabric_transfer.specs.Bytes.{Store}
use Rattle.fabric_state.specs.declared.Line.{Line}
use Rattle.fabric_state.specs.Records.{no_line, transfer_at}
use Rattle.fabric_layout.specs.Layout.{state_in}
use Rattle.fabric_calls.specs.Calls.{clock}

-- what a clock answers for slave s
abbrev pub line_shown : Board → List ℕ → Store → ℕ → Line
line_shown b before d s = get_or (clock b (state_in before) d).lines s no_line

pub record LanesShown (b : Board) (before : List ℕ) (d : Store) : Type 0 where
  pub some : (s : ℕ) → s < b.slave_count → is_native (slave_at b s) ≡ false → 1 ≤ (line_shown b before d s).phase
      → (transfer_at (state_in before) (line_shown b before d s).owner).write ≡ true → (line_shown b before d s).lanes ≢ 0
