-- `wait_table::put_pairs` meets its contract. The loop's invariant: the lines of the first m masters are stored.
-- Assumes nothing.
use native.Mathlib.Omega.{arith}
use Rattle.common_laws.specs.Lists.{gather}
use Rattle.common_text.proofs.Puts.{wrote_none}
use Rattle.wait_table.proofs.TableLines.{piece_next, pairs_wrote}
use Rattle.wait_table.proofs.put_pairs.Goals as goal

pub loop-m-init : goal.loop-m-init
unfolding gather
loop-m-init c = wrote_none _

pub loop-m-preserved : goal.loop-m-preserved
loop-m-preserved c = let l = c.loop-m in piece_next _ l.m l.invariant c.put_master_lines.ensures

pub returns : goal.returns
returns c =
    let l = c.loop-m in
    pairs_wrote _ l.invariant (omega (arith, l.auto.m-end, c.loop-m-test.false, c.master_count-m-end.ensures))
