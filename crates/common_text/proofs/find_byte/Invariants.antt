-- `common_text::find_byte` meets its contract. The loop's invariant: the bytes passed stand in front of the first piece of the
-- rest. Assumes nothing.
use mathlib.Core.Path.{◌≡◌}
use lib.ListN.{take, drop}
use Rattle.common_text.specs.Fields.{split}
use Rattle.common_text.proofs.Pieces.{prepend}
use Rattle.common_text.proofs.find_byte.Given as goal

abbrev pub invariant-loop-i : goal.invariant-loop-i
invariant-loop-i l = split l.b l.s ≡ prepend (take l.i l.s) (split l.b (drop l.i l.s))
