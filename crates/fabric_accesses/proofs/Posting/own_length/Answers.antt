-- `fabric_accesses::Posting::own_length` meets its contract: at most 8 accesses a beat, each of at most 256 clocks.
-- Assumes nothing.
use mathlib.Core.Path.{ap₂, ◌∙◌}
use Prim.Native.Nat.{ℕ, ◌+◌, ◌*◌, ◌≤◌}
use native.Mathlib.Omega.{arith}
use Rattle.common_laws.proofs.Arithmetic.{product_le}
use Rattle.fabric_transfer.specs.Alignment.{ratio}
use Rattle.fabric_transfer.specs.Accesses.{own_length}
use Rattle.fabric_transfer.proofs.AlignmentLaws.{ratio_le}
use Rattle.fabric_transfer.proofs.AccessLaws.{width_le, accesses_le}
use Rattle.fabric_accesses.proofs.Posting.own_length.Goals as goal

pub overflow_mul-result : goal.overflow_mul-result
overflow_mul-result c =
    let ma = c.args.self.pair.master in
    let sl = c.args.self.pair.slave in
    let few : ratio ma sl ≤ 8 = ratio_le ma sl 8 (omega arith) (width_le ma.width c.requires.0.wide.master) in
    let most : c.accesses-count.result ≤ 4294967295 * 8 =
    omega (arith, c.accesses-count.ensures, accesses_le ma sl c.args.self.transfer 4294967295 (omega arith)) in
    let short : 1 + c.from.result ≤ 256 = omega (arith, c.from.ensures, c.wait_of-wait.ensures, c.requires.1) in
    omega (arith, product_le c.accesses-count.result (1 + c.from.result) (4294967295 * 8) 256 most short)

pub returns : goal.returns
unfolding own_length
returns c = ap₂ (λ (x y : ℕ). x * (1 + y)) c.accesses-count.ensures (c.from.ensures ∙ c.wait_of-wait.ensures)
