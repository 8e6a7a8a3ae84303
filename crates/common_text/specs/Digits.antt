-- A number in decimal, and a line with its fields, as the writer and the table put them (rules 1.2, 1.3, 1.5).
-- Assumes nothing.
use Rattle.std.specs.Prelude.{cond, List, [], ◌∷◌, ◌++◌, ℕ, zero, suc, ◌+◌, ◌/◌, ◌%◌, ltb}
use Rattle.common_text.specs.Fields.{comma, line_feed}

-- the last k digits of n, or fewer where n has fewer
unfoldable pub digits_in : ℕ → ℕ → List ℕ
digits_in zero n = []
digits_in (suc k) n = cond (ltb n 10) ((48 + n) ∷ []) (digits_in k (n / 10) ++ ((48 + n % 10) ∷ []))

-- rule 1.5: n in decimal, no 0 in front of other digits, for n of at most 20 digits, as every number of 64 bits is
unfoldable pub digits : ℕ → List ℕ
digits n = digits_in 20 n

-- rule 1.2: a comma and a number, for each number
unfoldable pub fields_text : List ℕ → List ℕ
fields_text [] = []
fields_text (n ∷ ns) = comma ∷ (digits n ++ fields_text ns)

-- rules 1.2, 1.3: a line of a text: its first field, its numbers, the line feed
unfoldable pub line_text : List ℕ → List ℕ → List ℕ
line_text word numbers = word ++ (fields_text numbers ++ (line_feed ∷ []))
