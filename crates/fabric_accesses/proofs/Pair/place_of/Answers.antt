-- `fabric_accesses::Pair::place_of` meets its contract.
-- Assumes nothing.
use Rattle.fabric_transfer.proofs.RunLaws.{limit_pos, place_masked}
use Rattle.fabric_accesses.proofs.Pair.place_of.Goals as goal

pub overflow_sub-result : goal.overflow_sub-result
overflow_sub-result c = limit_pos _ _ _ c.before.requires c.run_limit-limit.ensures

pub returns : goal.returns
returns c = place_masked _ _ _ c.before.requires c.run_limit-limit.ensures _
