-- The board that the writer's lines of a board describe (rules 1.9, 1.10): the same, with zeros behind its counts.
-- Assumes nothing.
use Rattle.std.specs.Prelude.{cond, ltb, get_or}
use Rattle.common_laws.specs.Lists.{table}
use Rattle.description_board.specs.declared.Board.{Board}
use Rattle.description_board.specs.Records.{no_master, no_slave, master_at, slave_at}

-- rules 1.9, 1.10: the board with a zero master or slave at every index from its count on
unfoldable pub trimmed : Board → Board
trimmed b = record {
  master_count = b.master_count;
  slave_count = b.slave_count;
  masters = table (λ m. cond (ltb m b.master_count) (master_at b m) no_master) 8;
  slaves = table (λ s. cond (ltb s b.slave_count) (slave_at b s) no_slave) 16;
  shares = table (λ i. get_or b.shares i 0) 128;
  default_line = b.default_line;
}
