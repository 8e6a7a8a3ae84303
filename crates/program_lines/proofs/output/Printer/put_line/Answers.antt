use Rattle.std.proofs.Common.{arith}
use Rattle.common_text.proofs.Decimal.{line_length, fields_long}
use Rattle.program_lines.proofs.output.Printer.put_line.Goals as goal

pub put_line-requires : goal.put_line-requires
put_line-requires c =
    omega (arith, line_length c.args.word.now c.args.numbers.now, fields_long c.args.numbers.now)

pub invariant_of-self : goal.invariant_of-self
invariant_of-self c = record {
  within = omega (
    arith,
    c.put_line.ensures.put.end,
    line_length c.args.word.now c.args.numbers.now,
    fields_long c.args.numbers.now,
  );
}
