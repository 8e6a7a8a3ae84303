-- `fabric_layout::put_responses` meets its contract. The loop's invariant: the first m responses are those of the mask.
-- Assumes nothing.
use native.Mathlib.Omega.{arith}
use borrow.Author.Rules.{rules}
use Rattle.common_laws.proofs.FillLaws.{filled_next}
use Rattle.fabric_layout.proofs.LogPutLaws.{response_here, responses_begin, responses_end}
use Rattle.fabric_layout.proofs.put_responses.Goals as goal

pub loop-m-init : goal.loop-m-init
loop-m-init c = responses_begin _ _ (search rules)

pub loop-m-preserved : goal.loop-m-preserved
loop-m-preserved c = filled_next _ _ 8 _ c.loop-m.invariant (response_here _ _ c.response_for.ensures)

pub returns : goal.returns
returns c = responses_end _ _ _ (omega arith) c.loop-m.invariant
