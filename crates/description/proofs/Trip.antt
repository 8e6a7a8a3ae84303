-- The round trip: a board written and read, a text read and written, which is the same text, and how long a board's text can be.
-- A board is accepted where `board_refusal` is 0, a text where `read_text` answers 0.
-- Assumes nothing.
use mathlib.Core.Bool.{Bool, true, false, cond, not}
use mathlib.Core.List.{List}
use mathlib.Core.Path.{◌≡◌, refl, ap, sym, ◌∙◌}
use Prim.Native.Nat.{ℕ, ◌≤◌}
use native.Mathlib.Omega.{arith}
use lib.Dec.{ltb, eqb}
use lib.ListN.{length}
use borrow.Author.Tests.{le-ltb, eqb-true}
use Rattle.description_board.specs.declared.Board.{Board}
use Rattle.description_board.specs.declared.Reading.{Reading}
use Rattle.description_board.specs.Rules.{described, refused}
use Rattle.description_board.specs.Items.{items, board_refusal}
use Rattle.description_board.specs.Legal.{Legal}
use Rattle.description_board.specs.Rebuilt.{trimmed}
use Rattle.description_board.proofs.Accepted.{accepted_legal, rebuilt}
use Rattle.description_board.proofs.AcceptedLines.{lines_own}
use Rattle.description_board.proofs.OwnLines.{all_read}
use Rattle.description_board.proofs.Rebuilt.{items_trimmed, described_accepted, described_trimmed}
use Rattle.description_lines.specs.Reader.{items_of}
use Rattle.description_lines.specs.Writer.{items_text}
use Rattle.description.specs.declared.Parsed.{Parsed}
use Rattle.description.specs.Reader.{most_bytes, reading, read_text}
use Rattle.description.specs.Writer.{write_text, write_refusal}
use Rattle.description.specs.Longest.{longest}
use Rattle.description.specs.OneText.{Taken, OneText}
use Rattle.description.proofs.TextLengths.{reading_short}
use Rattle.description.proofs.LineTrip.{items_read, items_writable, text_short}
use Rattle.description.proofs.LineText.{items_text_lem}

-- a text may have 8,192 bytes (rule 1.2): no accepted board's text is near that
pub longest_fits : longest ≤ most_bytes
unfolding longest most_bytes
longest_fits = omega arith

-- what a text is read to, by its lines
lines_answer : (t : List ℕ) (r : Reading) → reading t ≡ r → read_text t ≡ record { number = r.number; board = r.board }
unfolding read_text
lines_answer t r e = ap (λ (q : Reading). record { number = q.number; board = q.board }) e

-- An accepted board.
module _ (b : Board) (accepted : board_refusal b ≡ 0) where
  -- its text is read to it, with zeros behind its counts
  pub read_written : read_text (write_text b) ≡ record { number = 0; board = trimmed b }
  unfolding write_text all_read
  read_written =
      let short : length (write_text b) ≤ most_bytes = omega (arith, text_short b (accepted_legal b accepted), longest_fits) in
      lines_answer (write_text b) _
      (reading_short (write_text b) short
      ∙ ap described (items_read (items b) (items_writable b (accepted_legal b accepted)))
      ∙ rebuilt b (accepted_legal b accepted))

  -- and that board has the same text
  pub written_trimmed : write_text (trimmed b) ≡ write_text b
  unfolding write_text
  written_trimmed = ap items_text (items_trimmed b accepted)

-- an output of `longest` bytes has room for every accepted board: `write` refuses what the check refuses, and no more
pub text_room : (b : Board) (out : List ℕ) → longest ≤ length out → write_refusal b out ≡ board_refusal b
unfolding write_refusal
text_room b out h = go (eqb (board_refusal b) 0) refl
  where
    go : (t : Bool) → eqb (board_refusal b) 0 ≡ t
        → cond (not t) (board_refusal b) (cond (ltb (length out) (length (write_text b))) 10 0) ≡ board_refusal b
    go true e =
        let accepted = eqb-true _ _ e in
        let g : length (write_text b) ≤ length out = omega (arith, text_short b (accepted_legal b accepted)) in
        rw (le-ltb (length out) (length (write_text b)) g) (sym accepted)
    go false e = refl

-- two boards for which the writer puts the same lines count as the same (rule 1.9): they differ only behind their counts
pub same_boards :
    (b c : Board) → board_refusal b ≡ 0 → board_refusal c ≡ 0 → write_text b ≡ write_text c → trimmed b ≡ trimmed c
same_boards b c p q e =
    ap (λ (r : Parsed). r.board) (sym (read_written b p) ∙ ap read_text e ∙ read_written c q)

-- An accepted text.
module _ (t : List ℕ) (accepted : Taken t) where
  reading_lines : reading t ≡ described (items_of t)
  unfolding read_text reading refused
  reading_lines = go (ltb most_bytes (length t)) accepted
    where
      go : (c : Bool) → (cond c (refused 1) (described (items_of t))).number ≡ 0
          → cond c (refused 1) (described (items_of t)) ≡ described (items_of t)
      go true e = absurd (omega arith)
      go false e = refl

  lines_accepted : (described (items_of t)).number ≡ 0
  unfolding read_text
  lines_accepted = ap (λ (r : Reading). r.number) (sym reading_lines) ∙ accepted

  read_board : (read_text t).board ≡ (described (items_of t)).board
  unfolding read_text
  read_board = ap (λ (r : Reading). r.board) reading_lines

  -- the check accepts the board it is read to
  pub read_accepted : board_refusal (read_text t).board ≡ 0
  read_accepted = rw read_board (described_accepted (items_of t) lines_accepted)

  -- which has zeros behind its counts
  pub read_trimmed : trimmed (read_text t).board ≡ (read_text t).board
  read_trimmed = rw read_board (described_trimmed (items_of t) lines_accepted)

  -- its lines are the writer's lines of that board
  board_lines : items (read_text t).board ≡ items_of t
  board_lines = rw read_board (lines_own (items_of t) lines_accepted)

  -- and it is, byte for byte, the text that the writer puts for that board
  accepted_text : write_text (read_text t).board ≡ t
  unfolding write_text
  accepted_text =
      ap items_text board_lines
      ∙ items_text_lem t (rw board_lines at (items_writable (read_text t).board (accepted_legal (read_text t).board read_accepted)))

  -- so it is written and read again to that same board
  pub read_again : read_text (write_text (read_text t).board) ≡ read_text t
  read_again = ap read_text accepted_text

-- so two accepted texts for which the writer puts the same lines are equal
same_texts : (s t : List ℕ) → Taken s → Taken t → write_text (read_text s).board ≡ write_text (read_text t).board → s ≡ t
same_texts s t p q e = sym (accepted_text s p) ∙ e ∙ accepted_text t q

pub one_text : OneText
one_text = record {
  written = accepted_text;
  board = λ s t p q e. same_texts s t p q (ap write_text e);
  lines = same_texts;
}

-- a board that was read is legal
pub read_legal : (text : List ℕ) {n : ℕ} {b : Board} → n ≡ (read_text text).number → n ≡ 0 → b ≡ (read_text text).board → Legal b
read_legal text e none x = rw x (accepted_legal (read_text text).board (read_accepted text (sym e ∙ none)))
