-- A board's table, what `print_table` answers, and what the table program prints (rule 5.9).
-- Assumes nothing.
use Rattle.std.specs.Prelude.{◌≡◌, cond, not, List, [], ◌∷◌, ◌++◌, ℕ, ◌≤◌, ltb, eqb, length, take, drop, Result, Ok, Err}
use Rattle.common_laws.specs.Bytes.{bytes_of}
use Rattle.common_laws.specs.Lists.{gather}
use Rattle.common_numbers.specs.Refusals.{refusal_number}
use Rattle.common_numbers.specs.declared.Refusal.{Refusal}
use Rattle.common_text.specs.Digits.{digits, line_text}
use Rattle.common_text.specs.Fields.{line_feed}
use Rattle.description_board.specs.declared.Board.{Board}
use Rattle.description_board.specs.Records.{connected}
use Rattle.description.specs.Reader.{read_text}
use Rattle.wait_turns.specs.Waits.{quoted_wait, serve_of}

-- rule 5.9: the table's first line
unfoldable pub heading : List ℕ
heading = bytes_of "master,slave,wait,serve\n"

-- rule 5.9: the line of master m at slave s; none where they are not connected
unfoldable pub pair_line : Board → ℕ → ℕ → List ℕ
pair_line b m s =
    cond (connected b m s) (line_text (digits m) (s ∷ quoted_wait b m s ∷ serve_of b m s ∷ [])) []

-- rule 5.9: the lines of all pairs, for each master those of its slaves
unfoldable pub pair_lines : Board → List ℕ
pair_lines b = gather (λ m. gather (pair_line b m) b.slave_count) b.master_count

-- rule 5.9: the table of a board
unfoldable pub table_text : Board → List ℕ
table_text b = heading ++ pair_lines b

-- rule 5.9: the table of the board that a text describes
unfoldable pub table_of : List ℕ → List ℕ
table_of text = table_text (read_text text).board

-- rules 7.10, 8.4: what `print_table` is refused for, or 0: the text for 1 to 7 and 19 to 21, then the output for 10
unfoldable pub print_refusal : List ℕ → List ℕ → ℕ
print_refusal text out =
    let n = (read_text text).number in
    cond (not (eqb n 0)) n (cond (ltb (length out) (length (table_of text))) 10 0)

-- rule 8.1: a refusal's number and 0, or 0 and the count of bytes written
pub record Printed : Type 0 where
  pub number : ℕ
  pub length : ℕ

-- the call's answer as these numbers
abbrev pub printed_in : Result ℕ Refusal → Printed
printed_in (Ok n) = record { number = 0; length = n }
printed_in (Err e) = record { number = refusal_number e; length = 0 }

-- rule 8.1: what `print_table` answers: a refusal's number and 0, or 0 and how many bytes are written
unfoldable pub print_answer : List ℕ → List ℕ → Printed
print_answer text out = record {
  number = print_refusal text out;
  length = cond (eqb (print_refusal text out) 0) (length (table_of text)) 0;
}

-- rules 8.1, 8.6: the lent output on return
unfoldable pub print_output : List ℕ → List ℕ → List ℕ
print_output text out =
    cond (eqb (print_refusal text out) 0) (table_of text ++ drop (length (table_of text)) out) out

-- rule 5.9: what is printed for a refused text
unfoldable pub refused_text : ℕ → List ℕ
refused_text n = line_text (bytes_of "refused") (n ∷ [])

-- rule 5.9: what the table program prints
unfoldable pub printed : List ℕ → List ℕ
printed text = let n = (read_text text).number in cond (eqb n 0) (table_of text) (refused_text n)

-- rules 5.9, 8.6: the lent page after `print_page`: what is printed, and after it the bytes that were there
unfoldable pub page_output : List ℕ → List ℕ → List ℕ
page_output text page = printed text ++ drop (length (printed text)) page

-- rule 5.10: the line in front of what is printed of a file
unfoldable pub file_line : List ℕ → List ℕ
file_line name = bytes_of "file," ++ name ++ (line_feed ∷ [])

-- rules 5.9, 5.10: a list whose first n bytes are a text that is to be printed. `counted` follows from `within`; with both at hand
-- `&list[..n]` needs no proof file.
pub record Begins (text list : List ℕ) (n : ℕ) : Type 0 where
  pub within : n ≤ length list
  pub counted : n ≡ length (take n list)
  pub front : take n list ≡ text
