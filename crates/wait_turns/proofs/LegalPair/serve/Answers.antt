-- `wait_turns::LegalPair::serve` meets its contract: 512 accesses at most, of 32 bits, fit 64.
-- Assumes nothing.
use Prim.Native.Nat.{◌*◌, ◌≤◌}
use native.Mathlib.Omega.{arith}
use Rattle.common_laws.proofs.Arithmetic.{product_le}
use Rattle.wait_turns.proofs.FigureBounds.{accesses_small}
use Rattle.wait_turns.proofs.LegalPair.serve.Goals as goal

pub overflow_mul-result-2 : goal.overflow_mul-result-2
overflow_mul-result-2 c =
    let n = c.from-beats.result * c.from-each.result in
    let few : n ≤ 64 * 8 =
    rw (c.from-beats.ensures, c.most_beats.ensures, c.from-each.ensures, c.ratio.ensures)
    (accesses_small c.args.self.pair.master c.args.self.legal.master c.args.self.pair.slave) in
    omega (arith, product_le n c.from.result (64 * 8) 4294967296 few (omega arith))
