-- `fabric_layout::log_count` meets its contract.
-- Assumes nothing.
use Rattle.fabric_layout.proofs.LogPutLaws.{count_read}
use Rattle.fabric_layout.proofs.log_count.Goals as goal

pub returns : goal.returns
returns c = count_read _
