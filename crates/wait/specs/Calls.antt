-- What `quote_of`, the wait call on a board, answers (rules 5.5, 5.7).
-- Assumes nothing.
use Rattle.std.specs.Prelude.{cond, not, ℕ, eqb, Result, Ok, Err}
use Rattle.common_numbers.specs.Refusals.{refusal_number}
use Rattle.common_numbers.specs.declared.Refusal.{Refusal}
use Rattle.description_board.specs.declared.Board.{Board}
use Rattle.description_board.specs.Items.{board_refusal}
use Rattle.wait_turns.specs.declared.Quote.{Quote}
use Rattle.wait_turns.specs.Waits.{quoted_wait, serve_of}
use Rattle.wait.specs.Answers.{pair_refusal}

-- a refusal's number and zeros, or 0 with wait and serve of a pair, in clocks (rules 5.5, 5.7, 8.1)
pub record Quoted : Type 0 where
  pub number : ℕ
  pub wait : ℕ
  pub serve : ℕ

-- the call's answer as these numbers
abbrev pub quoted_in : Result Quote Refusal → Quoted
quoted_in (Ok q) = record { number = 0; wait = q.wait; serve = q.serve }
quoted_in (Err e) = record { number = refusal_number e; wait = 0; serve = 0 }

-- rules 8.4, 8.5: what a wait that is looked up on a board is refused for, or 0: the board for 2 to 7, 19 and 20, then
-- the pair
unfoldable pub quote_refusal : Board → ℕ → ℕ → ℕ
quote_refusal b m s = cond (not (eqb (board_refusal b) 0)) (board_refusal b) (pair_refusal b m s)

-- rules 5.5, 5.7, 8.1: wait and serve of a pair, or a refusal's number and zeros
unfoldable pub quote_of : Board → ℕ → ℕ → Quoted
quote_of b m s =
    cond (eqb (quote_refusal b m s) 0) (record { number = 0; wait = quoted_wait b m s; serve = serve_of b m s })
    (record { number = quote_refusal b m s; wait = 0; serve = 0 })
