-- `wait_turns::turns_at` meets its contract: the sum of the first k masters is at most k × 2 ^ 50.
-- Assumes nothing.
use Prim.Native.Nat.{◌+◌}
use native.Mathlib.Omega.{arith}
use Rattle.description_layout.specs.Layout.{board_in}
use Rattle.wait_turns.proofs.TurnSums.{turns_more}
use Rattle.wait_turns.proofs.FigureBounds.{turns_le}
use Rattle.wait_turns.proofs.turns_at.Goals as goal

pub overflow_add-sum : goal.overflow_add-sum
overflow_add-sum c =
    let x = c.requires in
    let a = c.args in
    let l = c.loop-k in
    omega (
      arith,
      turns_more (board_in a.board.now) a.at.single a.at.v a.at.s l.k l.invariant c.turn_at-sum.ensures,
      turns_le (board_in a.board.now) x.legal a.at.s x.known a.at.single a.at.v 4294967296 (omega arith) (omega arith)
          (l.k + 1) (omega (arith, c.loop-k-test.true, c.master_count-k-end.ensures)),
      c.loop-k-test.true,
      c.master_count-k-end.ensures,
      x.legal.few_masters,
    )
