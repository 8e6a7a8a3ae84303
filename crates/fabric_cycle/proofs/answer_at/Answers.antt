-- `fabric_cycle::answer_at` meets its contract.
-- Assumes nothing.
use Rattle.fabric_cycle.proofs.UnmappedLaws.{log_stands}
use Rattle.fabric_cycle.proofs.answer_at.Goals as goal

pub enter-requires : goal.enter-requires
enter-requires c = log_stands _ _ c.transfer_at-t.ensures c.put_transfer.ensures.state c.requires.1
