-- The lines of a text, and what each of them says (rules 1.2, 1.3, 7.1).
-- Assumes nothing.
use Rattle.std.specs.Prelude.{cond, List, [], ◌∷◌, ℕ, eqb, get_or}
use Rattle.common_laws.specs.Bytes.{bytes_of}
use Rattle.common_laws.specs.Lists.{same}
use Rattle.common_numbers.specs.Numbers.{slave_length}
use Rattle.common_text.specs.Fields.{split, comma, line_feed, numbers_of}
use Rattle.common_text.specs.declared.Numbers.{Numbers}
use Rattle.description_board.specs.declared.Item.{Item}
use Rattle.description_board.specs.declared.Item.TheVariants.{Malformed, MasterLine, SlaveLine, ShareLine, DefaultLine}

-- rule 1.3: the word of a master line
abbrev pub master_word : List ℕ
master_word = bytes_of "master"

-- rule 1.3: the word of a slave line
abbrev pub slave_word : List ℕ
slave_word = bytes_of "slave"

-- rule 1.3: the word of a share line
abbrev pub share_word : List ℕ
share_word = bytes_of "share"

-- rule 1.3: the line `default`, which is its word alone
abbrev pub default_word : List ℕ
default_word = bytes_of "default"

-- rule 1.3: number i of a line
abbrev pub value : Numbers → ℕ → ℕ
value ns i = get_or ns.values i 0

-- rules 1.3, 7.1: `master,width,burst`; Malformed with another count of numbers
unfoldable pub master_line : Numbers → Item
master_line ns = cond (eqb ns.count 2) (MasterLine (value ns 0) (value ns 1)) Malformed

-- rules 1.3, 7.1: `slave,base,span,width,burst,readwait,writewait,native,latency`; no line has more numbers
unfoldable pub slave_line : Numbers → Item
slave_line ns =
    cond (eqb ns.count slave_length)
    (SlaveLine (record {
      base = value ns 0;
      span = value ns 1;
      width = value ns 2;
      burst = value ns 3;
      read_wait = value ns 4;
      write_wait = value ns 5;
      native = value ns 6;
      latency = value ns 7;
    }))
    Malformed

-- rules 1.3, 7.1: `share,master,slave,shares`
unfoldable pub share_line : Numbers → Item
share_line ns = cond (eqb ns.count 3) (ShareLine (value ns 0) (value ns 1) (value ns 2)) Malformed

-- rules 1.3, 7.1: what a line of these fields says. Malformed, which is refused with 1, where the word is unknown, the count is
-- wrong or a field is no number
unfoldable pub item_of_fields : List (List ℕ) → Item
item_of_fields [] = Malformed
item_of_fields (word ∷ fields) =
    cond (same word master_word) (master_line (numbers_of fields))
    (cond (same word slave_word) (slave_line (numbers_of fields))
    (cond (same word share_word) (share_line (numbers_of fields))
    Malformed))

-- rules 1.2, 1.3: what a line without its line feed says; an empty one is Malformed (rule 8.2)
unfoldable pub item_of : List ℕ → Item
item_of line = cond (same line default_word) DefaultLine (item_of_fields (split comma line))

-- rules 1.2, 7.1, 8.2: what stands behind the last line feed: nothing, or a line that lacks its own
unfoldable pub unended : List ℕ → List Item
unended [] = []
unended (c ∷ cs) = Malformed ∷ []

-- rule 1.2: the lines of a text, from its pieces between line feeds
unfoldable pub items_of_pieces : List (List ℕ) → List Item
items_of_pieces [] = []
items_of_pieces (p ∷ []) = unended p
items_of_pieces (p ∷ (q ∷ ps)) = item_of p ∷ items_of_pieces (q ∷ ps)

-- rules 1.2, 8.2: the lines of a text, in order
unfoldable pub items_of : List ℕ → List Item
items_of text = items_of_pieces (split line_feed text)
