-- The bytes of a description's lines as the writer puts them (rules 1.2, 1.3, 1.9).
-- Assumes nothing.
use Rattle.std.specs.Prelude.{List, [], ◌∷◌, ◌++◌, ℕ}
use Rattle.common_text.specs.Digits.{line_text}
use Rattle.description_board.specs.Records.{SlaveNumbers}
use Rattle.description_board.specs.declared.Item.{Item}
use Rattle.description_board.specs.declared.Item.TheVariants.{Malformed, MasterLine, SlaveLine, ShareLine, DefaultLine}
use Rattle.description_lines.specs.Reader.{master_word, slave_word, share_word, default_word}

-- rule 1.3: `slave,base,span,width,burst,readwait,writewait,native,latency`, the numbers in the order of the fields
abbrev pub slave_fields : SlaveNumbers → List ℕ
slave_fields n = n.base ∷ n.span ∷ n.width ∷ n.burst ∷ n.read_wait ∷ n.write_wait ∷ n.native ∷ n.latency ∷ []

-- rules 1.2, 1.3: a line as the writer puts it; Malformed, which no line of a board is, has no bytes
unfoldable pub item_text : Item → List ℕ
item_text Malformed = []
item_text (MasterLine width burst) = line_text master_word (width ∷ burst ∷ [])
item_text (SlaveLine n) = line_text slave_word (slave_fields n)
item_text (ShareLine m s shares) = line_text share_word (m ∷ s ∷ shares ∷ [])
item_text DefaultLine = line_text default_word []

-- rule 1.9: the lines as the writer puts them, one behind another
unfoldable pub items_text : List Item → List ℕ
items_text [] = []
items_text (x ∷ xs) = item_text x ++ items_text xs
