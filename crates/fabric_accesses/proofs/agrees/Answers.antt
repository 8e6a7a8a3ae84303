-- `fabric_accesses::agrees` meets its contract.
-- Assumes nothing.
use Rattle.fabric_transfer.specs.Decoding.{agrees}
use Rattle.fabric_transfer.proofs.DecodeLaws.{span_pos, multiples_agree}
use Rattle.fabric_accesses.proofs.agrees.Goals as goal

pub returns : goal.returns
unfolding agrees
returns c =
    multiples_agree _ _ (span_pos c.before.before.requires) c.before.above_span.ensures c.above_span-2.ensures
