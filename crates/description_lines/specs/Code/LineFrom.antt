-- Gives the code of description_lines its shape: a line of a text, found from a position on.
-- Assumes nothing.
use Rattle.std.specs.Prelude.{List, ◌∷◌, ◌≡◌, ℕ, ◌≤◌, ◌<◌, length, drop}
use Rattle.description_board.specs.declared.Item.{Item}
use Rattle.description_lines.specs.Reader.{items_of}

-- the line of a text that starts at position `at`, and the position where the next one starts (rules 1.2, 8.2)
pub record LineFrom (text : List ℕ) (at : ℕ) (item : Item) (next : ℕ) : Type 0 where
  pub onward : at < next
  pub within : next ≤ length text
  pub lines : items_of (drop at text) ≡ item ∷ items_of (drop next text)
