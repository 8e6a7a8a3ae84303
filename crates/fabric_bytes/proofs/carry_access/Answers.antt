-- `fabric_bytes::carry_access` meets its contract.
-- The numbers of the access are those of the definitions, so each branch ends in what its callees ensure.
-- Assumes nothing.
use Prim.Native.Nat.{◌+◌}
use native.Mathlib.Omega.{arith}
use Rattle.fabric_transfer.proofs.CarriedLaws.{lanes_fit, reads, clears, writes, read_done, write_done}
use Rattle.fabric_transfer.proofs.PartLaws.{lent_length, lent_source, lent_target}
use Rattle.fabric_bytes.proofs.carry_access.Goals as goal

pub write_access-requires : goal.write_access-requires
write_access-requires c =
    let fit = writes _ _ _ _ _ _ _ c.requires c.access_offset.ensures
    c.first_byte-from.ensures c.lane_bytes-count.ensures c.over_width-lane.ensures in
    let long = lent_length (c.args.start + c.access_offset.result) c.lane_bytes-count.result c.args.memory.now fit.3 in
    (fit.0, fit.1, omega (arith, long, fit.2), omega (arith, long, fit.4))

pub returns-then-transfer : goal.returns-then-transfer
returns-then-transfer c =
    let fit = writes _ _ _ _ _ _ _ c.requires c.access_offset.ensures
    c.first_byte-from.ensures c.lane_bytes-count.ensures c.over_width-lane.ensures in
    write_done _ _ _ _ _ _ _ c.requires c.access_offset.ensures
    c.first_byte-from.ensures c.lane_bytes-count.ensures c.if-transfer.true
    c.over_width-lane.ensures (lent_target _ _ _ _ _ c.write_access.ensures fit.3)

pub read_access-requires : goal.read_access-requires
read_access-requires c =
    let fit = reads _ _ _ _ _ _ _ c.requires c.access_offset.ensures
    c.first_byte-from.ensures c.lane_bytes-count.ensures in
    let long = lent_length (c.args.start + c.access_offset.result) c.lane_bytes-count.result c.args.memory.now fit.3 in
    (fit.0, fit.1, omega (arith, long, fit.2))

pub overflow_sub-bytes : goal.overflow_sub-bytes
overflow_sub-bytes c =
    omega (
      arith,
      c.access_bytes-bytes.ensures,
      lanes_fit _ _ _ _ _ _ _ c.requires c.access_offset.ensures
          c.first_byte-from.ensures c.lane_bytes-count.ensures,
    )

pub clear_access-requires : goal.clear_access-requires
clear_access-requires c =
    let fit = reads _ _ _ _ _ _ _ c.requires c.access_offset.ensures
    c.first_byte-from.ensures c.lane_bytes-count.ensures in
    let read = lent_source _ _ _ _ _ _ c.read_access.ensures fit.3 in
    let all = clears _ _ _ _ _ _ _ c.requires c.access_offset.ensures c.first_byte-from.ensures
    c.lane_bytes-count.ensures _ _ c.access_bytes-bytes.ensures read in
    (all.0, all.1, omega (arith, all.2))

pub returns : goal.returns
returns c =
    let fit = reads _ _ _ _ _ _ _ c.requires c.access_offset.ensures
    c.first_byte-from.ensures c.lane_bytes-count.ensures in
    read_done _ _ _ _ _ _ _ c.requires c.access_offset.ensures
    c.first_byte-from.ensures c.lane_bytes-count.ensures c.if-transfer.false c.access_bytes-bytes.ensures
    (lent_source _ _ _ _ _ _ c.read_access.ensures fit.3) c.clear_access.ensures
