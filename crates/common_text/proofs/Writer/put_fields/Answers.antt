-- `common_text::Writer::put_fields` meets its contract. The loop's invariant: the fields of the numbers passed are written. Assumes nothing.
use native.Mathlib.Omega.{arith}
use Rattle.common_text.specs.Digits.{fields_text}
use Rattle.common_text.proofs.Decimal.{fields_room_lem}
use Rattle.common_text.proofs.Puts.{wrote_next, wrote_none, put_length}
use Rattle.common_text.proofs.Writer.put_fields.Goals as goal

pub loop-n-init : goal.loop-n-init
unfolding fields_text
loop-n-init c = wrote_none _

pub put_field-requires : goal.put_field-requires
put_field-requires c =
    let l = c.loop-n in
    let e = l.invariant.put in
    omega (arith, c.requires, e.end, put_length e, fields_room_lem c.args.numbers.now l.n-index (omega arith))

pub loop-n-preserved : goal.loop-n-preserved
loop-n-preserved c = wrote_next _ c.loop-n.n-index (omega arith) c.loop-n.invariant c.put_field.ensures
