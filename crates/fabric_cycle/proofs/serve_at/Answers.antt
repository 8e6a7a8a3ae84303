-- `fabric_cycle::serve_at` meets its contract: the parts are read, the step and its bytes are made, and the parts are put.
-- Assumes nothing.
use Rattle.fabric_layout.proofs.MarkLaws.{marks_then}
use Rattle.fabric_cycle.proofs.SlaveClockLaws.{stepped_serving}
use Rattle.fabric_cycle.proofs.serve_at.Goals as goal

pub returns : goal.returns
returns c =
    let p = c.put_slot.ensures in
    let e = c.end_transfer.ensures in (
      stepped_serving _ _ _ _ _ _ c.master_at-master.ensures c.slave_at-slave.ensures
          c.transfer_at-transfer.ensures _ _ _ _ _ _ c.serve-step.ensures p.state
          c.put_line.ensures c.latency_of-latency.ensures e.state c.weight_of.ensures,
      marks_then p.marks e.marks,
    )
