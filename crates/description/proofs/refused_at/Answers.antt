-- `description::refused_at` meets its contract.
-- Assumes nothing.
use Rattle.description.proofs.BlameLaws.{refusal_is}
use Rattle.description.proofs.refused_at.Goals as goal

pub returns-clause-charge : goal.returns-clause-charge
returns-clause-charge c = (refusal_is _ _ _ c.read_bounded.ensures).0

pub returns-clause-charged : goal.returns-clause-charged
returns-clause-charged c = (refusal_is _ _ _ c.read_bounded.ensures).1
