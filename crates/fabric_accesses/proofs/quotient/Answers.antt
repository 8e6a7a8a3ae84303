-- `fabric_accesses::quotient` meets its contract.
-- Assumes nothing.
use native.Mathlib.Omega.{arith}
use Rattle.fabric_transfer.proofs.PowerLaws.{width_zeros, by_width}
use Rattle.fabric_accesses.proofs.quotient.Goals as goal

pub overflow_shr-result : goal.overflow_shr-result
overflow_shr-result c = omega (arith, width_zeros c.args.width c.requires)

pub returns : goal.returns
returns c = by_width _ _ c.requires
