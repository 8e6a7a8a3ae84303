-- Gives the code of fabric_check its shape: what decoding asks of a board (rule 3.6).
-- Assumes nothing.
use Rattle.std.specs.Prelude.{ℕ, ◌≤◌, ◌<◌}
use Rattle.description_board.specs.declared.Board.{Board}
use Rattle.description_board.specs.Records.{slave_at}
use Rattle.fabric_transfer.specs.Code.Pairs.{Span}

-- the array has room for the board's slaves, and their spans can be decoded
pub record Decodes (b : Board) : Type 0 where
  pub few : b.slave_count ≤ 16
  pub span : (s : ℕ) → s < b.slave_count → Span (slave_at b s).span
