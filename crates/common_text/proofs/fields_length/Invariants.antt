-- `common_text::fields_length` meets its contract. The loop's invariant: the sum is the length of the fields of the numbers passed,
-- at most 21 bytes to each. Assumes nothing.
use mathlib.Core.Path.{◌≡◌}
use Prim.Native.Nat.{◌*◌, ◌≤◌}
use lib.ListN.{length, take}
use Rattle.common_text.specs.Digits.{fields_text}
use Rattle.common_text.proofs.fields_length.Given as goal

abbrev pub invariant-loop-n : goal.invariant-loop-n
invariant-loop-n l =
    (l.sum ≤ 21 * l.n-index) × (l.sum ≡ length (fields_text (take l.n-index l.numbers)))
