-- `common_text::Writer::put_fields` meets its contract. The loop's invariant: the fields of the numbers passed are written. Assumes nothing.
use lib.ListN.{take}
use Rattle.common_text.specs.Digits.{fields_text}
use Rattle.common_text.specs.Code.Scanning.{Wrote}
use Rattle.common_text.proofs.Writer.put_fields.Given as goal

abbrev pub invariant-loop-n : goal.invariant-loop-n
invariant-loop-n l = Wrote l.initial.self (fields_text (take l.n-index l.numbers)) l.self
