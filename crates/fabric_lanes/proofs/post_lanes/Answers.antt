-- `fabric_lanes::post_lanes` meets its contract: its two tests are the definition's.
-- Assumes nothing.
use Rattle.fabric_lanes.proofs.LaneLaws.{posted}
use Rattle.fabric_lanes.proofs.post_lanes.Goals as goal

pub returns : goal.returns
returns c = posted _ _ _ c.before.legal_lanes-legal.ensures c.all_lanes-all.ensures
