-- `common_text::Writer::put_line` meets its contract: three texts, one after another. Assumes nothing.
use Rattle.common_text.specs.Digits.{line_text}
use Rattle.common_text.proofs.Puts.{wrote_then, room_first, room_then}
use Rattle.common_text.proofs.Writer.put_line.Goals as goal

pub put_bytes-requires : goal.put_bytes-requires
unfolding line_text
put_bytes-requires c = room_first c.args.self.now _ _ c.requires

pub put_fields-requires : goal.put_fields-requires
unfolding line_text
put_fields-requires c = room_first c.put_bytes.new.self _ _ (room_then _ c.requires c.put_bytes.ensures)

pub put_end-requires : goal.put_end-requires
unfolding line_text
put_end-requires c = room_then _ (room_then _ c.requires c.put_bytes.ensures) c.put_fields.ensures

pub returns : goal.returns
unfolding line_text
returns c = wrote_then c.put_bytes.ensures (wrote_then c.put_fields.ensures c.put_end.ensures)
