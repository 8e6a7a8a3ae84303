-- `wait_table::put_master_lines` meets its contract. The loop's invariant: the lines of master m at the first s slaves are stored.
-- Assumes nothing.
use native.Mathlib.Omega.{arith}
use Rattle.common_laws.specs.Lists.{gather}
use Rattle.common_text.proofs.Puts.{wrote_none}
use Rattle.wait_table.proofs.TableLines.{piece_next, lines_wrote}
use Rattle.wait_table.proofs.put_master_lines.Goals as goal

pub loop-s-init : goal.loop-s-init
unfolding gather
loop-s-init c = wrote_none _

pub loop-s-preserved : goal.loop-s-preserved
loop-s-preserved c = let l = c.loop-s in piece_next _ l.s l.invariant c.put_pair.ensures

pub returns : goal.returns
returns c =
    let l = c.loop-s in
    lines_wrote _ _ l.invariant (omega (arith, l.auto.s-end, c.loop-s-test.false, c.slave_count-s-end.ensures))
