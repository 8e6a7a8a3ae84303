-- `fabric_slave::waits` meets its contract: waits passed against the wait of the direction.
-- Assumes nothing.
use Rattle.fabric_state.specs.Control.{waits}
use Rattle.fabric_slave.proofs.waits.Goals as goal

pub returns : goal.returns
unfolding waits
returns c = rw c.wait_of.ensures
