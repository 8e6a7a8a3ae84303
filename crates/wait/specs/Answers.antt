-- What the wait call on a description's bytes answers (rule 5.8).
-- Assumes nothing.
use Rattle.std.specs.Prelude.{cond, not, List, ◌++◌, ℕ, ◌*◌, ◌/◌, ◌%◌, ◌^◌, ltb, leb, eqb, length, get_or, drop}
use Rattle.common_laws.specs.Lists.{sum, table}
use Rattle.description_board.specs.declared.Board.{Board}
use Rattle.description_board.specs.Records.{connected}
use Rattle.description.specs.Reader.{read_text}
use Rattle.wait_turns.specs.Waits.{quoted_wait, serve_of}

-- rule 5.8: a number as 8 bytes, the lowest first
unfoldable pub bytes64 : ℕ → List ℕ
bytes64 n = table (λ i. n / 256 ^ i % 256) 8

-- rule 5.8: the number that the first 8 bytes of a slice spell, the lowest first
abbrev pub spelled : List ℕ → ℕ
spelled bytes = sum (λ i. get_or bytes i 0 * 256 ^ i) 8

-- rule 5.8: wait and serve of master m at slave s, as 16 bytes
unfoldable pub pair_bytes : Board → ℕ → ℕ → List ℕ
pair_bytes b m s = bytes64 (quoted_wait b m s) ++ bytes64 (serve_of b m s)

-- rules 7.11, 7.16: what a pair that a wait is looked up for is refused for, or 0
unfoldable pub pair_refusal : Board → ℕ → ℕ → ℕ
pair_refusal b m s = cond (leb b.master_count m) 11 (cond (not (connected b m s)) 16 0)

-- rules 5.8, 7.10, 8.4: what a wait call is refused for, or 0: the text for 1 to 7 and 19 to 21, then 10, then the pair
unfoldable pub wait_refusal : List ℕ → ℕ → ℕ → List ℕ → ℕ
wait_refusal text m s out =
    let r = read_text text in
    cond (not (eqb r.number 0)) r.number
    (cond (ltb (length out) 16) 10
    (pair_refusal r.board m s))

-- rules 5.8, 8.1, 8.6: the lent slice after a wait call
unfoldable pub wait_output : List ℕ → ℕ → ℕ → List ℕ → List ℕ
wait_output text m s out =
    cond (eqb (wait_refusal text m s out) 0) (pair_bytes (read_text text).board m s ++ drop 16 out) out
