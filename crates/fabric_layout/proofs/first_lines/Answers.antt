-- `fabric_layout::first_lines` meets its contract. The loop's invariant: the lines from n to s show nothing, the others are as
-- before.
-- Assumes nothing.
use mathlib.Core.Path.{◌∙◌}
use native.Mathlib.Omega.{arith}
use Rattle.common_laws.proofs.FillLaws.{filled_next, filled_all}
use Rattle.fabric_layout.proofs.StatePutLaws.{clear_begin, clear_here, first_is}
use Rattle.fabric_layout.proofs.first_lines.Goals as goal

pub loop-s-init : goal.loop-s-init
loop-s-init c = clear_begin _ _

pub loop-s-preserved : goal.loop-s-preserved
loop-s-preserved c = c.put_line.ensures ∙ filled_next _ _ 16 _ c.loop-s.invariant (clear_here _ _ _ c.loop-s.auto.s)

pub returns : goal.returns
returns c = first_is _ _ (filled_all _ _ 16 _ (omega arith) c.loop-s.invariant)
