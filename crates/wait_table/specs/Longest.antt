-- How long a table can be (rule 5.9).
-- Assumes nothing.
use Rattle.std.specs.Prelude.{false, ℕ, ◌+◌, ◌*◌, replicate}
use Rattle.common_laws.specs.Lists.{table}
use Rattle.description_board.specs.declared.Board.{Board}

-- no accepted board's table has more bytes: the first line's 24, and for each of 8 masters 10 lines as `7,9,2336768,131072` and 6
-- as `7,15,2336768,131072`, each with its line feed
unfoldable pub longest_table : ℕ
longest_table = 24 + 8 * (10 * 19 + 6 * 20)

-- an accepted board whose table has so many, and whose figures are the largest: the widest masters with the longest bursts and the
-- most shares, at the narrowest slaves with bus sizing and the longest waits, whatever their latency
unfoldable pub largest_with : ℕ → Board
largest_with clocks = record {
  master_count = 8;
  slave_count = 16;
  masters = replicate 8 (record { width = 8; burst = 64 });
  slaves = table (λ s. record {
    base = 4096 * s;
    span = 4096;
    width = 1;
    burst = 64;
    read_wait = 255;
    write_wait = 255;
    native = 0;
    latency = clocks;
  }) 16;
  shares = replicate 128 100;
  default_line = false;
}

abbrev pub largest : Board
largest = largest_with 0
