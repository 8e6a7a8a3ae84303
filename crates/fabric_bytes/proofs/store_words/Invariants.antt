-- `fabric_bytes::store_words` meets its contract. The loop's invariant: the first k words are moved.
-- Assumes nothing.
use mathlib.Core.Path.{◌≡◌}
use lib.ListN.{length, get_or}
use Rattle.fabric_transfer.specs.Moving.{all, index_from, move}
use Rattle.fabric_bytes.proofs.store_words.Given as goal

abbrev pub invariant-loop-k : goal.invariant-loop-k
invariant-loop-k l =
    (length l.part ≡ length l.initial.part)
    × (l.part ≡ move all (λ k. get_or l.words k 0) (index_from l.at) 0 l.k l.initial.part)
