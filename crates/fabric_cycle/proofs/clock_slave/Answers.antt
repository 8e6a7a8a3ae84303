-- `fabric_cycle::clock_slave` meets its contract: a slave that serves, and one that rests.
-- Assumes nothing.
use Rattle.fabric_cycle.proofs.SlaveClockLaws.{stepped_resting, stepped_as}
use Rattle.fabric_cycle.proofs.clock_slave.Goals as goal

pub returns : goal.returns
returns c =
    let p = c.put_slot.ensures in (
      stepped_as _ _ _ _ c.slot_asked-slot.ensures _ _ _ _ _ _
          (stepped_resting _ _ _ _ _ _ _ _ _ c.if-slot.false p.state c.put_line.ensures),
      p.marks,
    )
