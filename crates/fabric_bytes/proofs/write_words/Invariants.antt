-- `fabric_bytes::write_words` meets its contract. The loop's invariant: the first k words are moved, where they are enabled.
-- Assumes nothing.
use mathlib.Core.Path.{◌≡◌}
use Prim.Native.Nat.{◌+◌}
use lib.ListN.{length, get_or}
use Rattle.common_laws.specs.Bits.{bit}
use Rattle.fabric_transfer.specs.Moving.{index_from, move}
use Rattle.fabric_bytes.proofs.write_words.Given as goal

abbrev pub invariant-loop-k : goal.invariant-loop-k
invariant-loop-k l =
    (length l.memory ≡ length l.initial.memory)
    × (l.memory ≡ move (λ i. bit l.lanes (l.lane + i)) (λ k. get_or l.words k 0) (index_from 0) 0 l.k l.initial.memory)
