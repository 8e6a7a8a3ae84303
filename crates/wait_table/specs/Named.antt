-- Which masters a table names (rule 5.9). `table_names` proves that it names every master of the board.
-- Assumes nothing.
use Rattle.std.specs.Prelude.{Bool, false, ◌||◌, List, [], ◌∷◌, ℕ, get_or}
use Rattle.common_laws.specs.Lists.{same}
use Rattle.common_text.specs.Digits.{digits}
use Rattle.common_text.specs.Fields.{comma, line_feed, split}

-- rule 1.2: the first field of a line
unfoldable pub first_field : List ℕ → List ℕ
first_field line = get_or (split comma line) 0 []

-- one of these lines has that first field
unfoldable pub some_line : List ℕ → List (List ℕ) → Bool
some_line field [] = false
some_line field (line ∷ lines) = same (first_field line) field || some_line field lines

-- rules 1.2, 5.9: a line of the text begins with the number of master m
unfoldable pub names_master : ℕ → List ℕ → Bool
names_master m text = some_line (digits m) (split line_feed text)
