-- `description_lines::line_from` meets its contract: a line that lacks its line feed, or one that has it. Assumes nothing.
use native.Mathlib.Omega.{arith}
use mathlib.Core.Path.{sym}
use lib.Seq.{length-take-le}
use Rattle.description_lines.proofs.ReadLaws.{line_ended, line_open}
use Rattle.description_lines.proofs.line_from.Goals as goal

pub returns-then-e-rest : goal.returns-then-e-rest
returns-then-e-rest c = line_open c.args.text.now c.args.at _ c.find_byte-e.ensures c.requires c.if-e-rest.true

pub slice_bounds-item_of-end : goal.slice_bounds-item_of-end
slice_bounds-item_of-end c = sym (length-take-le _ _ c.find_byte-e.ensures.within)

pub returns : goal.returns
returns c =
    let w = c.find_byte-e.ensures.within in
    line_ended c.args.text.now c.args.at _ c.find_byte-e.ensures c.requires _ (omega arith) c.item_of.ensures
