-- `fabric_accesses::Posting::slave_lanes` meets its contract.
-- Assumes nothing.
use mathlib.Core.Path.{sym, ◌∙◌}
use Rattle.fabric_transfer.proofs.AccessLaws.{width_le, write_slave_lanes, read_slave_lanes}
use Rattle.fabric_accesses.proofs.Posting.slave_lanes.Goals as goal

pub write_lanes-requires : goal.write_lanes-requires
write_lanes-requires c = c.before.requires

pub returns-then-self : goal.returns-then-self
returns-then-self c = c.write_lanes.ensures ∙ sym (write_slave_lanes _ _ _ _ c.before.if-self.true)

pub all_lanes-requires : goal.all_lanes-requires
all_lanes-requires c = width_le _ c.before.requires.0.slave

pub returns : goal.returns
returns c = c.all_lanes.ensures ∙ sym (read_slave_lanes _ _ _ _ c.before.if-self.false)
