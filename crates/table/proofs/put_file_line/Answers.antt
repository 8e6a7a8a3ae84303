-- `table::put_file_line` meets its contract: three texts, one after another.
-- Assumes nothing.
use mathlib.Core.Path.{◌∙◌}
use native.Mathlib.Omega.{arith}
use borrow.Author.Rules.{rules}
use Rattle.common_laws.specs.Bytes.{bytes_of}
use Rattle.common_text.proofs.Puts.{put_length}
use Rattle.table.proofs.FileLines.{line_begins}
use Rattle.table.proofs.put_file_line.Goals as goal

pub put_bytes-requires : goal.put_bytes-requires
put_bytes-requires c = omega (arith, c.requires)

pub put_bytes-requires-2 : goal.put_bytes-requires-2
put_bytes-requires-2 c =
    let e = c.put_bytes.ensures.put in
    omega (arith, e.end, put_length e, c.requires)

pub put_end-requires : goal.put_end-requires
put_end-requires c =
    let e = c.put_bytes.ensures.put in
    let f = c.put_bytes-2.ensures.put in
    omega (arith, e.end, put_length e, f.end, put_length f, c.requires)

pub returns : goal.returns
unfolding bytes_of
returns c =
    let p = line_begins _ c.put_bytes.ensures.put c.put_bytes-2.ensures.put c.put_end.ensures.put c.requires in
    let s = c.put_end.ensures.same ∙ c.put_bytes-2.ensures.same ∙ c.put_bytes.ensures.same in
    search (rules, p, s)
