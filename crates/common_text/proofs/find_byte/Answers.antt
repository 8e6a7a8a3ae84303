-- `common_text::find_byte` meets its contract. The loop's invariant: the bytes passed stand in front of the first piece of the
-- rest. Assumes nothing.
use mathlib.Core.Path.{◌≡◌}
use native.Mathlib.Omega.{arith}
use lib.ListN.{length}
use Rattle.common_text.proofs.Pieces.{prepend_nil, split_pass, split_found, split_none}
use Rattle.common_text.proofs.find_byte.Goals as goal

pub loop-i-init : goal.loop-i-init
loop-i-init c = prepend_nil c.args.b c.args.s.now

pub returns-then-x-b : goal.returns-then-x-b
returns-then-x-b c =
    record { within = omega arith; pieces = split_found _ _ c.loop-i.i (omega arith) c.if-x-b.true c.loop-i.invariant }

pub loop-i-preserved : goal.loop-i-preserved
loop-i-preserved c = split_pass _ _ c.loop-i.i (omega arith) c.if-x-b.false c.loop-i.invariant

pub returns : goal.returns
returns c =
    let e : c.loop-i.i ≡ length c.args.s.now = omega arith in
    let pieces = split_none _ _ c.loop-i.i (omega arith) c.loop-i.invariant in
    record { within = omega arith; pieces = rw e at pieces }
