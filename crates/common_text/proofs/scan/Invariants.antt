-- `common_text::scan` meets its contract. The loop's invariant: the value of the digits passed is below 10 to the power of their
-- count, and the number is what the digits left spell after it. Assumes nothing.
use mathlib.Core.Path.{◌≡◌}
use Prim.Native.Nat.{◌^◌, ◌<◌}
use lib.ListN.{drop}
use Rattle.common_text.specs.Fields.{scan}
use Rattle.common_text.proofs.scan.Given as goal

abbrev pub invariant-loop-c : goal.invariant-loop-c
invariant-loop-c l = (l.value < 10 ^ l.c-index) × (scan 0 l.s ≡ scan l.value (drop l.c-index l.s))
