-- Gives the code of description_layout its shape: what is put into the array of a board.
-- Assumes nothing.
use Rattle.std.specs.Prelude.{ℕ, set}
use Rattle.description_board.specs.declared.Board.{Board}

-- a board with the shares at index i of the 128 set
unfoldable pub with_share_at : Board → ℕ → ℕ → Board
with_share_at b i n = record {
  master_count = b.master_count;
  slave_count = b.slave_count;
  masters = b.masters;
  slaves = b.slaves;
  shares = set b.shares i n;
  default_line = b.default_line;
}
