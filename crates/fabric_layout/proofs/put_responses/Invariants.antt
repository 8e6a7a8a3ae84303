-- `fabric_layout::put_responses` meets its contract. The loop's invariant: the first m responses are those of the mask.
-- Assumes nothing.
use mathlib.Core.Path.{◌≡◌}
use lib.ListN.{get_or}
use Rattle.common_laws.proofs.FillLaws.{filled}
use Rattle.fabric_layout.proofs.LogPutLaws.{response_by}
use Rattle.fabric_layout.proofs.put_responses.Given as goal

abbrev pub invariant-loop-m : goal.invariant-loop-m
invariant-loop-m l =
    (l.responses ≡ filled (response_by l.mask) (λ k. get_or l.initial.responses k 0) 8 l.m)
