-- `description_lines::item_length` meets its contract, kind by kind. A line has few numbers, so that no sum wraps. Assumes
-- nothing.
use mathlib.Core.List.{[]}
use mathlib.Core.Path.{refl}
use native.Mathlib.Omega.{arith}
use borrow.Author.Rules.{rules}
use Rattle.common_laws.specs.Bytes.{bytes_of}
use Rattle.common_text.specs.Digits.{fields_text}
use Rattle.description_lines.specs.Writer.{item_text}
use Rattle.description_lines.specs.Reader.{master_word, slave_word, share_word, default_word}
use Rattle.description_lines.proofs.WriteLaws.{line_counted, fields_fit}
use Rattle.description_lines.proofs.item_length.Goals as goal

pub overflow_add-result : goal.overflow_add-result
overflow_add-result c = let h = fields_fit _ _ c.fields_length.ensures (search rules) in omega arith

pub overflow_add-result-in-SlaveLine : goal.overflow_add-result-in-SlaveLine
overflow_add-result-in-SlaveLine c = let h = fields_fit _ _ c.fields_length-in-SlaveLine.ensures (search rules) in omega arith

pub overflow_add-result-in-ShareLine : goal.overflow_add-result-in-ShareLine
overflow_add-result-in-ShareLine c = let h = fields_fit _ _ c.fields_length-in-ShareLine.ensures (search rules) in omega arith

pub returns-in-Malformed : goal.returns-in-Malformed
unfolding item_text
returns-in-Malformed c = rw c.in-Malformed.is

pub returns-in-MasterLine : goal.returns-in-MasterLine
unfolding item_text bytes_of
returns-in-MasterLine c = rw c.in-MasterLine.is (line_counted master_word _ _ c.fields_length.ensures)

pub returns-in-SlaveLine : goal.returns-in-SlaveLine
unfolding item_text bytes_of
returns-in-SlaveLine c =
    rw c.in-SlaveLine.is
    (line_counted slave_word _ _ (rw c.slave_fields.ensures at c.fields_length-in-SlaveLine.ensures))

pub returns-in-ShareLine : goal.returns-in-ShareLine
unfolding item_text bytes_of
returns-in-ShareLine c = rw c.in-ShareLine.is (line_counted share_word _ _ c.fields_length-in-ShareLine.ensures)

pub returns-in-DefaultLine : goal.returns-in-DefaultLine
unfolding item_text bytes_of fields_text
returns-in-DefaultLine c = rw c.in-DefaultLine.is (line_counted default_word [] 0 refl)
