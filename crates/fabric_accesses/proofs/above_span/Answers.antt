-- `fabric_accesses::above_span` meets its contract: what the mask takes away is what is over a multiple of the span.
-- Assumes nothing.
use native.Mathlib.Nat.{div-add-mod'}
use native.Mathlib.Omega.{arith}
use Rattle.fabric_transfer.proofs.DecodeLaws.{span_pos, over_span}
use Rattle.fabric_accesses.proofs.above_span.Goals as goal

pub overflow_sub-result : goal.overflow_sub-result
overflow_sub-result c = omega (arith, span_pos c.requires)

pub overflow_sub-result-2 : goal.overflow_sub-result-2
overflow_sub-result-2 c = omega (arith, over_span c.args.n c.requires, div-add-mod' c.args.n c.args.span)

pub returns : goal.returns
returns c = omega (arith, over_span c.args.n c.requires, div-add-mod' c.args.n c.args.span)
