-- A line written, how many bytes it takes, and lines one behind another.
-- Assumes nothing.
use mathlib.Core.List.{List, [], ◌∷◌, ◌++◌, append_assoc, append-nil}
use mathlib.Core.Path.{◌≡◌, refl, ap, sym, ◌∙◌}
use Prim.Native.Nat.{ℕ, ◌+◌, ◌*◌, ◌≤◌}
use native.Mathlib.Omega.{arith}
use lib.ListN.{length, length-append}
use Rattle.common_laws.specs.Bytes.{bytes_of}
use Rattle.common_text.specs.Fields.{most_numbers}
use Rattle.common_text.specs.Digits.{fields_text, line_text}
use Rattle.common_text.proofs.Decimal.{fields_long, line_length}
use Rattle.description_board.specs.declared.Item.{Item}
use Rattle.description_board.specs.declared.Item.TheVariants.{Malformed, MasterLine, SlaveLine, ShareLine, DefaultLine}
use Rattle.description_lines.specs.Reader.{master_word, slave_word, share_word, default_word}
use Rattle.description_lines.specs.Writer.{slave_fields, item_text, items_text}

-- a line's length from that of its fields
pub line_counted : (word ns : List ℕ) (k : ℕ) → k ≡ length (fields_text ns) → length word + 1 + k ≡ length (line_text word ns)
line_counted word ns k e = omega (arith, line_length word ns)

-- room for a line is room for another whose word is as long
pub line_room_lem :
    (at n : ℕ) (v w ns : List ℕ) → length v ≡ length w → at + length (line_text v ns) ≤ n → at + length (line_text w ns) ≤ n
line_room_lem at n v w ns e h = omega (arith, line_length v ns, line_length w ns)

-- A line has few numbers, so that its length is small: a comma and at most 20 digits for each number, a word of at most 7
-- bytes, the line feed.
abbrev fields_room : ℕ
fields_room = 21 * most_numbers

abbrev pub line_room : ℕ
line_room = 8 + fields_room

pub fields_fit : (ns : List ℕ) (k : ℕ) → k ≡ length (fields_text ns) → length ns ≤ most_numbers → k ≤ fields_room
fields_fit ns k e h = omega (arith, fields_long ns)

line_fits : (word ns : List ℕ) → length word ≤ 7 → length ns ≤ most_numbers → length (line_text word ns) ≤ line_room
line_fits word ns h g = omega (arith, line_length word ns, fields_long ns)

pub item_fits : (x : Item) → length (item_text x) ≤ line_room
unfolding item_text bytes_of
item_fits Malformed = omega arith
item_fits (MasterLine w u) = line_fits master_word (w ∷ u ∷ []) (omega arith) (omega arith)
item_fits (SlaveLine n) = line_fits slave_word (slave_fields n) (omega arith) (omega arith)
item_fits (ShareLine m s n) = line_fits share_word (m ∷ s ∷ n ∷ []) (omega arith) (omega arith)
item_fits DefaultLine = line_fits default_word [] (omega arith) (omega arith)

-- lines behind lines
pub text_append : (xs ys : List Item) → items_text (xs ++ ys) ≡ items_text xs ++ items_text ys
unfolding items_text
text_append [] ys = refl
text_append (x ∷ xs) ys =
    ap (λ (l : List ℕ). item_text x ++ l) (text_append xs ys) ∙ sym (append_assoc (item_text x) (items_text xs) (items_text ys))

pub text_one : (x : Item) → items_text (x ∷ []) ≡ item_text x
unfolding items_text
text_one x = append-nil (item_text x)

pub length_text : (xs ys : List Item) → length (items_text (xs ++ ys)) ≡ length (items_text xs) + length (items_text ys)
length_text xs ys = ap length (text_append xs ys) ∙ length-append (items_text xs) (items_text ys)
