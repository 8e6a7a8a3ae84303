-- `wait_turns::LegalPair::turn` meets its contract: the singles and the longest transfer are below 2 ^ 49 each.
-- Assumes nothing.
use Prim.Native.Nat.{◌*◌, ◌^◌, ◌<◌}
use native.Mathlib.Omega.{arith}
use Rattle.common_laws.proofs.Arithmetic.{product_le}
use Rattle.wait_turns.proofs.FigureBounds.{single_le, serve_le}
use Rattle.wait_turns.proofs.LegalPair.turn.Goals.{After-single}
use Rattle.wait_turns.proofs.LegalPair.turn.Goals as goal

singles_small : (c : After-single) → c.from.result * c.single.result < 2 ^ 49
singles_small c =
    let a = c.args in
    let l = single_le a.self.pair.master a.self.legal.master a.self.pair.slave a.a 4294967296 (omega arith) in
    let n = product_le c.from.result c.single.result 99 (8 * 4294967296) (omega arith) (omega arith) in
    omega arith

pub overflow_mul-result : goal.overflow_mul-result
overflow_mul-result c = omega (arith, singles_small (goal.at.overflow_mul-result c).After-single)

pub overflow_add-result : goal.overflow_add-result
overflow_add-result c =
    let a = c.args in
    omega (
      arith,
      singles_small (goal.at.overflow_add-result c).After-single,
      serve_le a.self.pair.master a.self.legal.master a.self.pair.slave a.v 4294967296 (omega arith),
    )
