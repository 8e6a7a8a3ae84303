-- The reader: the board that a text describes, or the number it is refused with (rules 7.1 to 7.7, 7.19 to 7.21,
-- 8.2).
-- Assumes nothing.
use Rattle.std.specs.Prelude.{cond, List, ℕ, ltb, length}
use Rattle.description_board.specs.declared.Reading.{Reading}
use Rattle.description_board.specs.Rules.{described, refused}
use Rattle.description_lines.specs.Reader.{items_of}
use Rattle.description.specs.declared.Parsed.{Parsed}

-- rule 1.2: the most bytes of a description
unfoldable pub most_bytes : ℕ
most_bytes = 8192

-- rules 1.2, 7.1, 8.2: the text's length is judged first, then its lines
unfoldable pub reading : List ℕ → Reading
reading text = cond (ltb most_bytes (length text)) (refused 1) (described (items_of text))

-- rule 8.1: what a text is read to: 0 and its board, or a refusal's number and a board of zeros
unfoldable pub read_text : List ℕ → Parsed
read_text text = record { number = (reading text).number; board = (reading text).board }
