-- The spans lie one after another in the lent memory.
-- Assumes nothing.
use mathlib.Core.Path.{◌≡◌}
use Prim.Native.Nat.{ℕ, suc, ◌+◌, ◌≤◌, ◌<◌}
use native.Mathlib.Omega.{arith}
use Rattle.description_board.specs.declared.Board.{Board}
use Rattle.description_board.specs.Records.{slave_at, start_of, memory_length}
use Rattle.description_board.proofs.SpanLaws.{total_suc, total_fewer}

module _ (b : Board) where
  pub start_next : (s : ℕ) → start_of b (suc s) ≡ start_of b s + (slave_at b s).span
  unfolding start_of
  start_next s = total_suc b.slaves s

  -- a span ends where the next begins, or before
  pub end_before : (s k : ℕ) → s < k → start_of b s + (slave_at b s).span ≤ start_of b k
  unfolding start_of
  end_before s k h = omega (arith, total_suc b.slaves s, total_fewer b.slaves k (suc s) h)

  pub end_inside : (s : ℕ) → s < b.slave_count → start_of b s + (slave_at b s).span ≤ memory_length b
  unfolding memory_length
  end_inside s h = end_before s b.slave_count h
