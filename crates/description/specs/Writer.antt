-- The writer: a board's text, and the lent output on return (rules 1.9, 8.6).
-- Assumes nothing.
use Rattle.std.specs.Prelude.{cond, not, List, ◌++◌, ℕ, ltb, eqb, length, drop, Result}
use Rattle.description_board.specs.declared.Board.{Board}
use Rattle.description_board.specs.Items.{items, board_refusal}
use Rattle.description_lines.specs.Writer.{items_text}
use Rattle.common_numbers.specs.declared.Refusal.{Refusal}
use Rattle.common_numbers.specs.Refusals.{refusal_in, answer_or}

-- rule 1.9: the writer's lines for a board
unfoldable pub write_text : Board → List ℕ
write_text b = items_text (items b)

-- rules 7.10, 8.4, 8.5: what `write` is refused for, or 0: 2 to 7, 19 and 20 for the board, then 10 for the output
unfoldable pub write_refusal : Board → List ℕ → ℕ
write_refusal b out = cond (not (eqb (board_refusal b) 0)) (board_refusal b) (cond (ltb (length out) (length (write_text b))) 10 0)

-- rule 8.1: a refusal's number and 0, or 0 and how many bytes are written
pub record Written : Type 0 where
  pub number : ℕ
  pub length : ℕ

abbrev pub written_of : Result ℕ Refusal → Written
written_of r = record { number = refusal_in r; length = answer_or 0 r }

-- rule 8.1: what `write` answers
unfoldable pub write_answer : Board → List ℕ → Written
write_answer b out = record {
  number = write_refusal b out;
  length = cond (eqb (write_refusal b out) 0) (length (write_text b)) 0;
}

-- rules 8.1, 8.6: the lent output on return
unfoldable pub write_output : Board → List ℕ → List ℕ
write_output b out =
    cond (eqb (write_refusal b out) 0) (write_text b ++ drop (length (write_text b)) out) out
