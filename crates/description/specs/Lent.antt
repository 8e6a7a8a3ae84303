-- A text read into a lent array: what the array holds then (rules 1.10, 8.1).
-- Assumes nothing.
use Rattle.std.specs.Prelude.{◌≡◌, List, ℕ}
use Rattle.description_layout.specs.Layout.{board_in, numbers_of_board}
use Rattle.description.specs.Reader.{read_text}

-- rules 1.10, 2.4, 8.1: what `read` answers, and leaves in the lent array: the text's board, number by number, or every number as it was
pub record Read (text before after : List ℕ) (n : ℕ) : Type 0 where
  pub number : n ≡ (read_text text).number
  pub board : n ≡ 0 → board_in after ≡ (read_text text).board
  pub numbers : n ≡ 0 → after ≡ numbers_of_board (read_text text).board
  pub kept : (n ≡ 0 → ⊥) → after ≡ before
