-- Gives the code of wait_table its shape: the lines of a master, each by the turns at its slave.
-- Assumes nothing.
use Rattle.std.specs.Prelude.{◌≡◌, List, [], ◌∷◌, ℕ, ◌<◌, get_or}
use Rattle.common_laws.specs.Lists.{gather}
use Rattle.common_text.specs.Digits.{digits, line_text}
use Rattle.description_board.specs.declared.Board.{Board}
use Rattle.wait_turns.specs.declared.Quote.{Quote}
use Rattle.wait_turns.specs.declared.Turns.{Turns}
use Rattle.wait_turns.specs.Code.Pairs.{slave_turns}
use Rattle.wait_table.specs.Tables.{pair_line}

-- the line of master m at slave s (rule 5.9)
unfoldable pub quote_line : ℕ → ℕ → Quote → List ℕ
quote_line m s q = line_text (digits m) (s ∷ q.wait ∷ q.serve ∷ [])

-- the lines of master m (rule 5.9)
unfoldable pub master_lines : Board → ℕ → List ℕ
master_lines b m = gather (pair_line b m) b.slave_count

-- a list holds the turns of the first n slaves (rules 5.1, 5.6, 5.7)
pub record Summed (b : Board) (n : ℕ) (turns : List Turns) : Type 0 where
  pub at : (s : ℕ) → s < n → (t : Turns) → get_or turns s t ≡ slave_turns b s
