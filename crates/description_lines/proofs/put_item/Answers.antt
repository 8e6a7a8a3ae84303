-- `description_lines::put_item` meets its contract, kind by kind. Assumes nothing.
use mathlib.Core.Path.{refl}
use Rattle.common_laws.specs.Bytes.{bytes_of}
use Rattle.common_text.proofs.Puts.{wrote_none}
use Rattle.description_lines.specs.Reader.{master_word, slave_word, share_word, default_word}
use Rattle.description_lines.specs.Writer.{item_text}
use Rattle.description_lines.proofs.WriteLaws.{line_room_lem}
use Rattle.description_lines.proofs.put_item.Goals as goal

pub put_line-requires : goal.put_line-requires
unfolding item_text bytes_of
put_line-requires c = line_room_lem _ _ master_word _ _ refl (rw c.in-MasterLine.is at c.requires)

pub put_line-requires-in-SlaveLine : goal.put_line-requires-in-SlaveLine
unfolding item_text bytes_of
put_line-requires-in-SlaveLine c =
    rw c.slave_fields.ensures
    (line_room_lem _ _ slave_word _ _ refl (rw c.in-SlaveLine.is at c.requires))

pub put_line-requires-in-ShareLine : goal.put_line-requires-in-ShareLine
unfolding item_text bytes_of
put_line-requires-in-ShareLine c = line_room_lem _ _ share_word _ _ refl (rw c.in-ShareLine.is at c.requires)

pub put_line-requires-in-DefaultLine : goal.put_line-requires-in-DefaultLine
unfolding item_text bytes_of
put_line-requires-in-DefaultLine c = line_room_lem _ _ default_word _ _ refl (rw c.in-DefaultLine.is at c.requires)

pub returns-in-Malformed : goal.returns-in-Malformed
unfolding item_text
returns-in-Malformed c = rw c.in-Malformed.is (wrote_none _)

pub returns-in-MasterLine : goal.returns-in-MasterLine
unfolding item_text bytes_of
returns-in-MasterLine c = rw c.in-MasterLine.is c.put_line.ensures

pub returns-in-SlaveLine : goal.returns-in-SlaveLine
unfolding item_text bytes_of
returns-in-SlaveLine c =
    rw c.in-SlaveLine.is (rw c.slave_fields.ensures at c.put_line-in-SlaveLine.ensures)

pub returns-in-ShareLine : goal.returns-in-ShareLine
unfolding item_text bytes_of
returns-in-ShareLine c = rw c.in-ShareLine.is c.put_line-in-ShareLine.ensures

pub returns-in-DefaultLine : goal.returns-in-DefaultLine
unfolding item_text bytes_of
returns-in-DefaultLine c = rw c.in-DefaultLine.is c.put_line-in-DefaultLine.ensures
