-- Gives the code of description_rules and description_check its shape: what has been read, if the board is an array.
-- Assumes nothing.
use Rattle.std.specs.Prelude.{◌≡◌, List, ℕ, Result}
use Rattle.common_numbers.specs.declared.Refusal.{Refusal}
use Rattle.common_numbers.specs.Refusals.{refusal_in, answer_or}
use Rattle.description_board.specs.declared.Item.{Item}
use Rattle.description_board.specs.declared.Reading.{Reading}
use Rattle.description_board.specs.Rules.{item_refusal, step}
use Rattle.description_layout.specs.Layout.{board_in}
use Rattle.description_rules.specs.declared.Progress.{Progress}

-- what a line was answered, a refusal or its pair's rank, and the board in the array are one reading
unfoldable pub reading_of : Result ℕ Refusal → List ℕ → Reading
reading_of r l = record { number = refusal_in r; above = answer_or 0 r; board = board_in l }

-- the same of a progress, which has any number for the refusal
unfoldable pub progress_in : Progress → List ℕ → Reading
progress_in p l = record { number = p.number; above = p.above; board = board_in l }

-- a line is answered its refusal; if there is none the array holds the board with the line
pub record Added (r : Reading) (x : Item) (a : Result ℕ Refusal) (l : List ℕ) : Type 0 where
  pub number : refusal_in a ≡ item_refusal r x
  pub line : refusal_in a ≡ 0 → reading_of a l ≡ step r x
