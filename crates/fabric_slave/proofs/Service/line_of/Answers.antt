-- `fabric_slave::line_of` meets its contract: the line of the access in hand.
-- Assumes nothing.
use Rattle.fabric_slave.proofs.ServeLaws.{line_found}
use Rattle.fabric_slave.proofs.Service.line_of.Goals as goal

pub returns : goal.returns
returns c =
    line_found _ _ _ _ _ c.requires.placed.number c.word_offset-offset.ensures c.slave_lanes-lanes.ensures
    c.run_of-run.ensures c.place_of-place.ensures
