-- `fabric_lanes::legal_lanes` meets its contract: its tests are the definition's.
-- Assumes nothing.
use native.Mathlib.Omega.{arith}
use lib.Count.{ones-le}
use Rattle.fabric_lanes.proofs.LaneLaws.{outside, mask_lt, some_count, few_below, tested}
use Rattle.fabric_lanes.proofs.legal_lanes.Goals as goal

pub returns-then-lanes : goal.returns-then-lanes
returns-then-lanes c = outside _ _ c.before.requires c.if-lanes.true

pub overflow_shr-run : goal.overflow_shr-run
overflow_shr-run c = omega (arith, few_below c.before.args.lanes c.if-lanes.false)

pub all_lanes-all-requires : goal.all_lanes-all-requires
all_lanes-all-requires c = ones-le 8 _ (mask_lt _ c.if-lanes.false)

pub overflow_sub-below : goal.overflow_sub-below
overflow_sub-below c = some_count _ c.before.if-lanes.false

pub overflow_add-result : goal.overflow_add-result
overflow_add-result c =
    let lanes = c.before.before.args.lanes in
    let e = c.before.if-lanes.false in
    omega (arith, few_below lanes e, ones-le 8 lanes (mask_lt lanes e))

pub returns : goal.returns
returns c = tested _ c.before.if-lanes.false _ _ c.all_lanes-all.ensures
