-- A line by its first field, and the lines of a text from a place of it on.
-- Assumes nothing.
use mathlib.Core.Bool.{Bool, true, false, false≢true}
use mathlib.Core.List.{List, [], ◌∷◌}
use mathlib.Core.Path.{◌≡◌, refl, ap, sym, ◌∙◌}
use Prim.Native.Nat.{ℕ, ◌+◌, ◌-◌, ◌<◌}
use native.Mathlib.Omega.{arith}
use lib.ListN.{length, get_or, take, drop}
use lib.Seq.{length-take-le, drop-length}
use Rattle.common_laws.specs.Bytes.{bytes_of}
use Rattle.common_laws.specs.Lists.{same}
use Rattle.common_laws.proofs.TextLists.{part_rest_length, same_true}
use Rattle.common_text.specs.Fields.{comma, line_feed, push, split, numbers_of}
use Rattle.common_text.specs.Code.Scanning.{behind, Cut}
use Rattle.common_text.proofs.Pieces.{prepend, prepend_nil, cut_rest, rest_more, rest_last}
use Rattle.description_board.specs.declared.Item.{Item}
use Rattle.description_board.specs.declared.Item.TheVariants.{Malformed, DefaultLine}
use Rattle.description_lines.specs.Reader.{master_word, slave_word, share_word, default_word, master_line, slave_line, share_line}
use Rattle.description_lines.specs.Reader.{item_of, item_of_fields, items_of, items_of_pieces, unended}
use Rattle.description_lines.specs.Code.LineFrom.{LineFrom}

-- the line `default` has one field, its word
default_field : (line : List ℕ) → same line default_word ≡ true → get_or (split comma line) 0 [] ≡ default_word
unfolding split push bytes_of
default_field line e = rw (same_true line default_word e)

master_other : same default_word master_word ≡ false
unfolding same bytes_of
master_other = refl

slave_other : same default_word slave_word ≡ false
unfolding same bytes_of
slave_other = refl

share_other : same default_word share_word ≡ false
unfolding same bytes_of
share_other = refl

-- so a line whose first field is another word is another line
other_line : (line word : List ℕ) (e : ℕ) → Cut comma line e → same default_word word ≡ false → same (take e line) word ≡ true
    → same line default_word ≡ false
other_line line word e cut other h = go (same line default_word) refl
  where
    go : (t : Bool) → same line default_word ≡ t → t ≡ false
    go false q = refl
    go true q =
        let first : take e line ≡ default_word =
        sym (ap (λ (ps : List (List ℕ)). get_or ps 0 []) cut.pieces) ∙ default_field line q in
        absurd (false≢true (sym other ∙ rw first at h))

-- a line by its first field, which ends at e; m, s and h say whether that is "master", "slave", "share", d whether the whole line
-- is "default"
module _
    (line : List ℕ) (e : ℕ) (cut : Cut comma line e)
    {m : Bool} (em : m ≡ same (take e line) master_word)
  where
    pub item_master : m ≡ true → item_of line ≡ master_line (numbers_of (behind comma line e))
    unfolding item_of item_of_fields
    item_master h = rw (other_line line master_word e cut master_other (sym em ∙ h), cut.pieces, ← em, h)

    module _ (not-master : m ≡ false) {s : Bool} (es : s ≡ same (take e line) slave_word) where
      pub item_slave : s ≡ true → item_of line ≡ slave_line (numbers_of (behind comma line e))
      unfolding item_of item_of_fields
      item_slave h =
          rw (other_line line slave_word e cut slave_other (sym es ∙ h), cut.pieces, ← em, not-master, ← es, h)

      module _ (not-slave : s ≡ false) {h : Bool} (eh : h ≡ same (take e line) share_word) where
        pub item_share : h ≡ true → item_of line ≡ share_line (numbers_of (behind comma line e))
        unfolding item_of item_of_fields
        item_share t =
            rw (
              other_line line share_word e cut share_other (sym eh ∙ t),
              cut.pieces,
              ← em,
              not-master,
              ← es,
              not-slave,
              ← eh,
              t,
            )

        module _ (not-share : h ≡ false) {d : Bool} (ed : d ≡ same line default_word) where
          pub item_default : d ≡ true → item_of line ≡ DefaultLine
          unfolding item_of
          item_default t = rw (← ed, t)

          pub item_unknown : d ≡ false → item_of line ≡ Malformed
          unfolding item_of item_of_fields
          item_unknown t = rw (← ed, t, cut.pieces, ← em, not-master, ← es, not-slave, ← eh, not-share)

-- a piece before a line feed is a line
pub items_more : (p t : List ℕ) → items_of_pieces (p ∷ split line_feed t) ≡ item_of p ∷ items_of t
unfolding items_of items_of_pieces
items_more p t = rw (prepend_nil line_feed t) (go (split line_feed t))
  where
    go : (ps : List (List ℕ)) → items_of_pieces (p ∷ prepend [] ps) ≡ item_of p ∷ items_of_pieces (prepend [] ps)
    go [] = refl
    go (q ∷ qs) = refl

-- a piece behind the last line feed
unended_some : (p : List ℕ) → (length p ≡ 0 → ⊥) → unended p ≡ Malformed ∷ []
unfolding unended
unended_some [] h = absurd (h refl)
unended_some (c ∷ cs) h = refl

-- behind the last byte
no_lines : (s : List ℕ) → items_of (drop (length s) s) ≡ []
unfolding items_of items_of_pieces unended split
no_lines s = rw (drop-length s)

-- The lines of s from `at` on, which is not its end, where the first piece there ends e bytes on.
module _
    (s : List ℕ) (at e : ℕ) (cut : Cut line_feed (take (length s - at) (drop at s)) e) (more : at < length s)
  where
    lines_last :
        e ≡ length (take (length s - at) (drop at s))
        → items_of (drop at s) ≡ unended (take e (take (length s - at) (drop at s)))
    unfolding items_of items_of_pieces
    lines_last h = rw (cut_rest line_feed s at e cut, rest_last line_feed s at e h)

    lines_more :
        e < length (take (length s - at) (drop at s))
        → items_of (drop at s) ≡ item_of (take e (take (length s - at) (drop at s))) ∷ items_of (drop (at + e + 1) s)
    unfolding items_of
    lines_more h =
        rw (cut_rest line_feed s at e cut, rest_more line_feed s at e h)
        (items_more (take e (take (length s - at) (drop at s))) (drop (at + e + 1) s))

    -- with its line feed
    pub line_ended :
        (item : Item) → e < length (take (length s - at) (drop at s)) → item ≡ item_of (take e (take (length s - at) (drop at s)))
        → LineFrom s at item (at + e + 1)
    line_ended item h eq = record {
      onward = omega arith;
      within = let l = part_rest_length s at in omega arith;
      lines = rw eq (lines_more h);
    }

    -- without
    pub line_open : e ≡ length (take (length s - at) (drop at s)) → LineFrom s at Malformed (length s)
    line_open h = record {
      onward = more;
      within = omega arith;
      lines =
          let l = part_rest_length s at in
          let some : length (take e (take (length s - at) (drop at s))) ≡ 0 → ⊥ =
          λ z. let k = sym (length-take-le e (take (length s - at) (drop at s)) cut.within) ∙ z in omega arith in
          lines_last h ∙ unended_some _ some ∙ ap (λ (xs : List Item). Malformed ∷ xs) (sym (no_lines s));
    }
