-- `common_text::numbers_of` meets its contract. The loop's invariant: the numbers are those so far and then those of the rest's
-- fields. The measure is the length of the rest. Assumes nothing.
use mathlib.Core.Path.{◌≡◌}
use Prim.Native.Nat.{◌≤◌}
use lib.ListN.{length}
use Rattle.common_text.specs.Fields.{comma, split, collect, most_numbers, numbers_of}
use Rattle.common_text.proofs.numbers_of.Given as goal

abbrev pub invariant-loop-ns : goal.invariant-loop-ns
invariant-loop-ns l =
    (length l.rest ≤ length l.fields) ×
    (l.ns.count ≤ most_numbers) ×
    (numbers_of (split comma l.fields) ≡ collect l.ns (split comma l.rest))

abbrev pub decreases-loop-ns : goal.decreases-loop-ns
decreases-loop-ns l = length l.rest
