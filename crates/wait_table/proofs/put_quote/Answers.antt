-- `wait_table::put_quote` meets its contract: three texts, one after another.
-- Assumes nothing.
use mathlib.Core.Path.{◌≡◌}
use mathlib.Core.List.{[], ◌∷◌}
use Rattle.common_text.proofs.Puts.{wrote_then, room_first, room_then}
use Rattle.common_text.specs.Code.Scanning.{HasRoom}
use Rattle.common_text.specs.Digits.{digits, line_text}
use Rattle.wait_table.specs.Code.PairLines.{quote_line}
use Rattle.wait_table.proofs.put_quote.Goals.{After-from-2}
use Rattle.wait_table.proofs.put_quote.Goals as goal

-- the line by the numbers that are written
line_is : (c : After-from-2)
    → let a = c.args in
    quote_line a.m a.s a.q ≡ line_text (digits c.from-2.result) (c.from.result ∷ a.q.wait ∷ a.q.serve ∷ [])
unfolding quote_line
line_is c = rw (c.from.ensures, c.from-2.ensures)

-- and the room for it
room : (c : After-from-2)
    → let a = c.args in
    HasRoom a.writer.now (line_text (digits c.from-2.result) (c.from.result ∷ a.q.wait ∷ a.q.serve ∷ []))
room c = rw (line_is c) at c.requires

pub put_number-requires : goal.put_number-requires
unfolding line_text
put_number-requires c = room_first c.args.writer.now _ _ (room (goal.at.put_number-requires c).After-from-2)

pub put_fields-requires : goal.put_fields-requires
unfolding line_text
put_fields-requires c =
    room_first c.put_number.new.self _ _ (room_then _ (room (goal.at.put_fields-requires c).After-from-2) c.put_number.ensures)

pub put_end-requires : goal.put_end-requires
unfolding line_text
put_end-requires c =
    room_then _ (room_then _ (room (goal.at.put_end-requires c).After-from-2) c.put_number.ensures) c.put_fields.ensures

pub returns : goal.returns
unfolding line_text
returns c =
    rw (line_is (goal.at.returns c).After-from-2)
    (wrote_then c.put_number.ensures (wrote_then c.put_fields.ensures c.put_end.ensures))
