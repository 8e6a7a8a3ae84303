-- Lines written and read again, and how many bytes the lines of a legal board take.
-- Assumes nothing.
use mathlib.Core.Bool.{Bool, true, false}
use mathlib.Core.List.{List, [], ◌∷◌, ◌++◌, map}
use mathlib.Core.Logic.{◌≢◌}
use mathlib.Core.Path.{◌≡◌, refl, ap, ◌∙◌}
use Prim.Native.Nat.{ℕ, zero, suc, ◌+◌, ◌/◌, ◌%◌, ◌≤◌, ◌<◌}
use native.Mathlib.Decide.{ℕ_discrete}
use native.Mathlib.Omega.{arith}
use lib.ListN.{length, get_or, length-append}
use Rattle.common_laws.specs.Bytes.{bytes_of}
use Rattle.common_laws.specs.Lists.{member, same, gather, table}
use Rattle.common_text.specs.Digits.{digits, fields_text, line_text}
use Rattle.common_text.specs.Fields.{comma, line_feed, split}
use Rattle.common_text.proofs.Decimal.{digits_most, line_length}
use Rattle.common_text.proofs.Round.{Short, split_fields, split_line, numbers_digits}
use Rattle.description_board.specs.declared.Board.{Board}
use Rattle.description_board.specs.declared.Item.{Item}
use Rattle.description_board.specs.declared.Item.TheVariants.{Malformed, MasterLine, SlaveLine, ShareLine, DefaultLine}
use Rattle.description_board.specs.Records.{master_at, slave_at}
use Rattle.description_board.specs.Items.{master_item, slave_numbers, slave_item, share_item, default_item, items}
use Rattle.description_board.specs.Legal.{Legal}
use Rattle.description_board.proofs.RuleLaws.{width_bound, burst_bound, span_bound}
use Rattle.description_board.proofs.ItemLaws.{line_none, line_some, default_none, default_some}
use Rattle.description_lines.specs.Reader.{master_word, slave_word, share_word, default_word, master_line, slave_line, share_line}
use Rattle.description_lines.specs.Reader.{item_of, item_of_fields, items_of, items_of_pieces, unended}
use Rattle.description_lines.specs.Writer.{slave_fields, item_text, items_text}
use Rattle.description_lines.proofs.ReadLaws.{items_more}
use Rattle.description.specs.Writer.{write_text}
use Rattle.description.specs.Longest.{longest}
use Rattle.description.proofs.BoardText.{gather_most, lines_most, length_parts, pair_none, pair_some}

-- each number of the line has at most 10 digits, as every number has that a line can hold
abbrev pub Writable : Item → Type 0
Writable Malformed = ⊥
Writable (MasterLine w u) = Short (w ∷ u ∷ [])
Writable (SlaveLine n) = Short (slave_fields n)
Writable (ShareLine m s n) = Short (m ∷ s ∷ n ∷ [])
Writable DefaultLine = Unit {0}

abbrev pub AllWritable : List Item → Type 0
AllWritable [] = Unit {0}
AllWritable (x ∷ xs) = Writable x × AllWritable xs

-- one line, with more text behind it
module _ (word ns rest : List ℕ) (feed : member line_feed word ≡ false) where
  line_first : items_of (line_text word ns ++ rest) ≡ item_of (word ++ fields_text ns) ∷ items_of rest
  unfolding items_of
  line_first = ap items_of_pieces (split_line word ns rest feed) ∙ items_more (word ++ fields_text ns) rest

  -- one that is not `default` is read by its fields
  module _ (part : member comma word ≡ false) (other : same (word ++ fields_text ns) default_word ≡ false) where
    line_read : items_of (line_text word ns ++ rest) ≡ item_of_fields (word ∷ map digits ns) ∷ items_of rest
    unfolding item_of
    line_read = rw (line_first, other, split_fields word ns part)

pub item_read : (x : Item) (rest : List ℕ) → Writable x → items_of (item_text x ++ rest) ≡ x ∷ items_of rest
unfolding item_text item_of item_of_fields master_line slave_line share_line fields_text bytes_of member same
item_read Malformed rest h = absurd h
item_read (MasterLine w u) rest h =
    line_read master_word (w ∷ u ∷ []) rest refl refl refl ∙ rw (numbers_digits (w ∷ u ∷ []) (omega arith) h)
item_read (SlaveLine n) rest h =
    line_read slave_word (slave_fields n) rest refl refl refl ∙ rw (numbers_digits (slave_fields n) (omega arith) h)
item_read (ShareLine m s n) rest h =
    line_read share_word (m ∷ s ∷ n ∷ []) rest refl refl refl ∙ rw (numbers_digits (m ∷ s ∷ n ∷ []) (omega arith) h)
item_read DefaultLine rest h = line_first default_word [] rest refl

-- the lines of a written text are the lines that were written
pub items_read : (xs : List Item) → AllWritable xs → items_of (items_text xs) ≡ xs
unfolding items_text items_of items_of_pieces unended split
items_read [] h = refl
items_read (x ∷ xs) h = item_read x (items_text xs) h.0 ∙ ap (λ (l : List Item). x ∷ l) (items_read xs h.1)

all_append : (xs ys : List Item) → AllWritable xs → AllWritable ys → AllWritable (xs ++ ys)
all_append [] ys p q = q
all_append (x ∷ xs) ys p q = (p.0, all_append xs ys p.1 q)

all_gather : (f : ℕ → List Item) (n : ℕ) → ((i : ℕ) → i < n → AllWritable (f i)) → AllWritable (gather f n)
unfolding gather
all_gather f zero h = tt
all_gather f (suc n) h = all_append (gather f n) (f n) (all_gather f n (λ i l. h i (omega arith))) (h n (omega arith))

all_table : (f : ℕ → Item) (n : ℕ) → ((i : ℕ) → i < n → Writable (f i)) → AllWritable (table f n)
unfolding table
all_table f n h = all_gather (λ i. f i ∷ []) n (λ i l. (h i l, tt))

-- one field more
length_field : (n : ℕ) (ns : List ℕ) → length (fields_text (n ∷ ns)) ≡ 1 + length (digits n) + length (fields_text ns)
unfolding fields_text
length_field n ns = omega (arith, length-append (digits n) (fields_text ns))

-- a line that can be read again, of so many bytes at most
record Line (most : ℕ) (x : Item) : Type 0 where
  writable : Writable x
  short : length (item_text x) ≤ most

-- the line `default`, where the board has it
default_writable : (has : Bool) → AllWritable (default_item has)
default_writable true = rw (default_some true refl) (tt, tt)
default_writable false = rw (default_none false refl) tt

default_short : (has : Bool) → length (items_text (default_item has)) ≤ 8
unfolding items_text item_text line_text fields_text bytes_of
default_short true = rw (default_some true refl) (omega arith)
default_short false = rw (default_none false refl) (omega arith)

-- The lines of a legal board.
module _ (b : Board) (k : Legal b) where
  master_line_lem : (m : ℕ) → m < b.master_count → Line 12 (master_item b.masters m)
  unfolding master_item item_text fields_text bytes_of
  master_line_lem m l =
      let y = master_at b m in
      let w = width_bound y.width (k.master m l).width in
      let u = burst_bound y.burst (k.master m l).burst in
      record {
        writable = (omega arith, (omega arith, tt));
        short =
            omega (
              arith,
              line_length master_word (y.width ∷ y.burst ∷ []),
              length_field y.width (y.burst ∷ []),
              length_field y.burst [],
              digits_most 0 y.width (omega arith),
              digits_most 1 y.burst (omega arith),
            );
      }

  slave_line_lem : (s : ℕ) → s < b.slave_count → Line 41 (slave_item b.slaves s)
  unfolding slave_item item_text fields_text bytes_of
  slave_line_lem s l =
      let y = slave_at b s in
      let x = k.slave s l in
      let n = span_bound y.span x.span in
      let w = width_bound y.width x.width in
      let u = burst_bound y.burst x.burst in
      let last = y.native ∷ y.latency ∷ [] in
      let rest = y.read_wait ∷ y.write_wait ∷ last in
      record {
        writable = (
          omega arith,
          (omega arith, (omega arith, (omega arith, (omega arith, (omega arith, (omega arith, (omega arith, tt))))))),
        );
        short =
            omega (
              arith,
              line_length slave_word (slave_fields (slave_numbers y)),
              length_field y.base (y.span ∷ y.width ∷ y.burst ∷ rest),
              length_field y.span (y.width ∷ y.burst ∷ rest),
              length_field y.width (y.burst ∷ rest),
              length_field y.burst rest,
              length_field y.read_wait (y.write_wait ∷ last),
              length_field y.write_wait last,
              length_field y.native (y.latency ∷ []),
              length_field y.latency [],
              digits_most 9 y.base (omega arith),
              digits_most 4 y.span (omega arith),
              digits_most 0 y.width (omega arith),
              digits_most 1 y.burst (omega arith),
              digits_most 2 y.read_wait (omega arith),
              digits_most 2 y.write_wait (omega arith),
              digits_most 0 y.native (omega arith),
              digits_most 1 y.latency (omega arith),
            );
      }

  share_line_lem : (i : ℕ) → i < 128 → get_or b.shares i 0 ≢ 0 → Line 15 (ShareLine (i / 16) (i % 16) (get_or b.shares i 0))
  unfolding item_text fields_text bytes_of
  share_line_lem i l z =
      let p = k.shares i l z in
      let few = k.few_masters in
      let n = get_or b.shares i 0 in
      record {
        writable = (omega arith, (omega arith, (omega arith, tt)));
        short =
            omega (
              arith,
              line_length share_word (i / 16 ∷ i % 16 ∷ n ∷ []),
              length_field (i / 16) (i % 16 ∷ n ∷ []),
              length_field (i % 16) (n ∷ []),
              length_field n [],
              digits_most 0 (i / 16) (omega arith),
              digits_most 1 (i % 16) (omega arith),
              digits_most 2 n (omega arith),
            );
      }

  pair_writable : (i : ℕ) → i < 128 → AllWritable (share_item b.shares i)
  pair_writable i l = go (ℕ_discrete (get_or b.shares i 0) 0)
    where
      go : Dec (get_or b.shares i 0 ≡ 0) → AllWritable (share_item b.shares i)
      go (yes e) = rw (line_none b.shares i e) tt
      go (no e) = rw (line_some b.shares i e) ((share_line_lem i l e).writable, tt)

  pair_short : (i : ℕ) → i < 128 → length (items_text (share_item b.shares i)) ≤ 15
  pair_short i l = go (ℕ_discrete (get_or b.shares i 0) 0)
    where
      go : Dec (get_or b.shares i 0 ≡ 0) → length (items_text (share_item b.shares i)) ≤ 15
      go (yes e) = rw (pair_none b.shares i e) (omega arith)
      go (no e) = rw (pair_some b.shares i e) (share_line_lem i l e).short

  pub items_writable : AllWritable (items b)
  unfolding items
  items_writable =
      all_append (table (master_item b.masters) b.master_count) _
      (all_table _ _ (λ m l. (master_line_lem m l).writable))
      (all_append (table (slave_item b.slaves) b.slave_count) _
      (all_table _ _ (λ s l. (slave_line_lem s l).writable))
      (all_append (gather (share_item b.shares) 128) _
      (all_gather _ _ pair_writable)
      (default_writable b.default_line)))

  -- its text has at most `longest` bytes
  pub text_short : length (write_text b) ≤ longest
  unfolding longest
  text_short =
      omega (
        arith,
        length_parts b,
        lines_most (master_item b.masters) 12 b.master_count (λ m l. (master_line_lem m l).short),
        lines_most (slave_item b.slaves) 41 b.slave_count (λ s l. (slave_line_lem s l).short),
        gather_most (share_item b.shares) 15 128 pair_short,
        default_short b.default_line,
        k.few_masters,
        k.few_slaves,
      )
