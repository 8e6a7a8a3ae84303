-- `fabric_layout::clear_log` meets its contract. The loop's invariant: the first i entries are 0, and all else is as the loop found it.
-- Assumes nothing.
use native.Mathlib.Omega.{arith}
use borrow.Author.Rules.{rules}
use Rattle.fabric_layout.proofs.LogPutLaws.{clear_log_begin, clear_log_next, clear_log_end}
use Rattle.fabric_layout.proofs.clear_log.Goals as goal

pub loop-i-init : goal.loop-i-init
loop-i-init c = clear_log_begin _

pub loop-i-preserved : goal.loop-i-preserved
loop-i-preserved c = clear_log_next _ _ c.loop-i.invariant c.put_entry.ensures.0

pub returns : goal.returns
returns c = clear_log_end _ (search rules) _ (omega arith) c.loop-i.invariant
