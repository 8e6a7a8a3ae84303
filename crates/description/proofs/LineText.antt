-- Lines read and written again: a text of which no line is malformed has the bytes that the writer puts for its lines.
-- Assumes nothing.
use mathlib.Core.Bool.{Bool, true, false, cond}
use mathlib.Core.List.{List, [], ◌∷◌, ◌++◌, append_assoc}
use mathlib.Core.Path.{◌≡◌, refl, ap, ap₂, ◌∙◌}
use Prim.Native.Nat.{ℕ, ◌≤◌}
use native.Mathlib.Omega.{arith}
use lib.Dec.{eqb}
use borrow.Author.Tests.{eqb-true}
use Rattle.common_laws.specs.Lists.{same, gather, table}
use Rattle.common_laws.proofs.TextLists.{same_true}
use Rattle.common_numbers.specs.Numbers.{slave_length}
use Rattle.common_text.specs.Digits.{fields_text, line_text}
use Rattle.common_text.specs.Fields.{comma, line_feed, split, most_numbers, numbers_of}
use Rattle.common_text.proofs.Spelling.{joined, joined_split, line_spelling}
use Rattle.description_board.specs.declared.Item.{Item}
use Rattle.description_board.specs.declared.Item.TheVariants.{Malformed, DefaultLine}
use Rattle.description_lines.specs.Reader.{master_word, slave_word, share_word, default_word, value, master_line, slave_line, share_line}
use Rattle.description_lines.specs.Reader.{item_of, item_of_fields, items_of, items_of_pieces, unended}
use Rattle.description_lines.specs.Writer.{item_text, items_text}
use Rattle.description.proofs.LineTrip.{Writable, AllWritable}

-- a line that is not malformed has these bytes
abbrev Has : List ℕ → Item → Type 0
Has bytes x = Writable x → item_text x ≡ bytes

-- whichever of two lines a test chooses
has_chosen : (bytes : List ℕ) (t : Bool) (x y : Item) → (t ≡ true → Has bytes x) → Has bytes y → Has bytes (cond t x y)
has_chosen bytes true x y p q = p refl
has_chosen bytes false x y p q = q

-- A line that has the field `word` and then the fields fs.
module _ (line word : List ℕ) (fs : List (List ℕ)) (e : split comma line ≡ word ∷ fs) where
  -- the first is w, and behind it k numbers are read, which are those of x
  has_numbers :
      (w : List ℕ) (k : ℕ) (x : Item) → 1 ≤ k → k ≤ most_numbers → item_text x ≡ line_text w (table (value (numbers_of fs)) k)
      → same word w ≡ true → Has (line ++ (line_feed ∷ [])) (cond (eqb (numbers_of fs).count k) x Malformed)
  has_numbers w k x some few t s =
      has_chosen _ (eqb (numbers_of fs).count k) x Malformed
      (λ c h. t ∙ line_spelling line w fs k (e ∙ ap (λ (v : List ℕ). v ∷ fs) (same_true word w s)) (eqb-true _ k c) some few)
      (λ h. absurd h)

  -- whatever the first is
  has_fields : Has (line ++ (line_feed ∷ [])) (item_of_fields (word ∷ fs))
  unfolding item_of_fields master_line slave_line share_line item_text table gather
  has_fields =
      has_chosen _ (same word master_word) _ _ (has_numbers master_word 2 _ (omega arith) (omega arith) refl)
      (has_chosen _ (same word slave_word) _ _ (has_numbers slave_word slave_length _ (omega arith) (omega arith) refl)
      (has_chosen _ (same word share_word) _ _ (has_numbers share_word 3 _ (omega arith) (omega arith) refl) (λ h. absurd h)))

-- the line `default`
has_default : (line : List ℕ) → same line default_word ≡ true → Has (line ++ (line_feed ∷ [])) DefaultLine
unfolding item_text line_text fields_text
has_default line s h = rw (same_true line default_word s)

-- rules 1.2, 1.3: a line read and written again
pub line_text_lem : (p : List ℕ) → Writable (item_of p) → item_text (item_of p) ≡ p ++ (line_feed ∷ [])
unfolding item_of item_of_fields
line_text_lem p = has_chosen _ (same p default_word) DefaultLine _ (has_default p) (go (split comma p) refl)
  where
    go : (fs : List (List ℕ)) → split comma p ≡ fs → Has (p ++ (line_feed ∷ [])) (item_of_fields fs)
    go [] e h = absurd h
    go (word ∷ fs) e h = has_fields p word fs e h

-- the lines that are read from pieces
pieces_text : (ps : List (List ℕ)) → AllWritable (items_of_pieces ps) → items_text (items_of_pieces ps) ≡ joined line_feed ps
unfolding items_of_pieces unended items_text
pieces_text [] h = refl
pieces_text ([] ∷ []) h = refl
pieces_text ((c ∷ cs) ∷ []) h = absurd h.0
pieces_text (p ∷ (q ∷ ps)) h =
    ap₂ (λ (x y : List ℕ). x ++ y) (line_text_lem p h.0) (pieces_text (q ∷ ps) h.1)
    ∙ append_assoc p (line_feed ∷ []) (joined line_feed (q ∷ ps))

-- rules 1.2, 1.3, 1.9: a text whose lines are read and written again
pub items_text_lem : (t : List ℕ) → AllWritable (items_of t) → items_text (items_of t) ≡ t
unfolding items_of
items_text_lem t h = pieces_text (split line_feed t) h ∙ joined_split line_feed t
