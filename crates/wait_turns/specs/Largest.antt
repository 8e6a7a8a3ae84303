-- The largest figures of all legal boards (rules 5.5 to 5.7), whatever the latencies. `figures_most` proves that no pair has larger
-- ones, and `largest_figures` (wait_table) that a board has both, with latency and without.
-- Assumes nothing.
use Rattle.std.specs.Prelude.{ℕ, ◌+◌, ◌*◌, ◌^◌, ◌≤◌, ◌<◌}
use Rattle.description_board.specs.declared.Board.{Board}
use Rattle.wait_turns.specs.Waits.{quoted_wait, serve_of}

-- 64 beats of 8 accesses of 256 clocks: 131,072
unfoldable pub most_serve : ℕ
most_serve = 64 * 8 * 256

-- the turns of 7 other masters, each of 99 singles and a longest transfer: 2,336,768
unfoldable pub most_wait : ℕ
most_wait = 7 * (99 * (8 * 256) + most_serve)

-- of master m at slave s
pub record Most (b : Board) (m s : ℕ) : Type 0 where
  pub wait : quoted_wait b m s ≤ most_wait
  pub serve : serve_of b m s ≤ most_serve

-- they fit what holds them: the 64 bits of a figure, and 7 and 6 digits of a table's line
pub record MostFit : Type 0 where
  pub wait : (most_wait < 2 ^ 64) × (most_wait < 10 ^ 7)
  pub serve : (most_serve < 2 ^ 64) × (most_serve < 10 ^ 6)
