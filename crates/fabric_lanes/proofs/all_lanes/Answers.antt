-- `fabric_lanes::all_lanes` meets its contract: at most 8 lanes, so that no bit is shifted out.
-- Assumes nothing.
use mathlib.Core.Path.{◌≡◌, ap, ◌∙◌}
use Prim.Native.Nat.{ℕ, ◌-◌, ◌*◌, ◌%◌, ◌^◌, ◌≤◌}
use native.Mathlib.Nat.{one-mul}
use native.Mathlib.Omega.{arith}
use lib.Pow.{pow_pos, shl_exact}
use Rattle.fabric_lanes.proofs.all_lanes.Goals as goal

power : (k : ℕ) → k ≤ 8 → 1 * 2 ^ k % 2 ^ 32 ≡ 2 ^ k
power k h = shl_exact 1 k 32 (omega arith) (omega arith) ∙ one-mul (2 ^ k)

pub overflow_sub-result : goal.overflow_sub-result
overflow_sub-result c = omega (arith, power c.args.width c.requires, pow_pos c.args.width)

pub returns : goal.returns
returns c = ap (λ (x : ℕ). x - 1) (power c.args.width c.requires)
