-- Lines, fields and decimal numbers of a text (rules 1.2, 1.3, 1.5).
-- Assumes nothing.
use Rattle.std.specs.Prelude.{Bool, cond, not, ◌&&◌, List, [], ◌∷◌, ℕ, ◌+◌, ◌-◌, ◌*◌, leb, ltb, eqb, length, get_or, set, replicate, Option, Some, None}
use Rattle.common_numbers.specs.Numbers.{slave_length}
use Rattle.common_text.specs.declared.Numbers.{Numbers}

-- rule 1.2: the byte behind a line
abbrev pub line_feed : ℕ
line_feed = 10

-- rule 1.2: the byte between fields
abbrev pub comma : ℕ
comma = 44

-- c in front of the first piece
unfoldable pub push : ℕ → List (List ℕ) → List (List ℕ)
push c [] = (c ∷ []) ∷ []
push c (p ∷ ps) = (c ∷ p) ∷ ps

-- rule 1.2: the pieces of a text between the bytes `separator`, one more than there are such bytes
unfoldable pub split : ℕ → List ℕ → List (List ℕ)
split separator [] = [] ∷ []
split separator (c ∷ cs) = cond (eqb c separator) ([] ∷ split separator cs) (push c (split separator cs))

-- rule 1.5: c is the byte of a digit, `0` to `9`
unfoldable pub is_digit : ℕ → Bool
is_digit c = leb 48 c && leb c 57

-- rule 1.5: the number that the digits spell behind those of n; none if a byte is no digit's. A difference stops at 0; the test
-- leaves no c below 48.
unfoldable pub scan : ℕ → List ℕ → Option ℕ
scan n [] = Some n
scan n (c ∷ cs) = cond (is_digit c) (scan (n * 10 + (c - 48)) cs) None

-- rule 1.5: the byte of the digit 0, which is the first of a number only where it is the only one
abbrev pub zero_digit : ℕ
zero_digit = 48

-- rule 1.5: the count of digits, and no 0 in front of other digits. Of an empty field `get_or` gives 0, which is no digit's byte.
unfoldable pub shaped : List ℕ → Bool
shaped field = leb 1 (length field) && (leb (length field) 10 && not (eqb (get_or field 0 0) zero_digit && ltb 1 (length field)))

-- rule 1.5: the number that a field spells, if it spells one
unfoldable pub number_of : List ℕ → Option ℕ
number_of field = cond (shaped field) (scan 0 field) None

-- rule 7.1: refusal 1 of a field that is no number, else 0
unfoldable pub number_refusal : Option ℕ → ℕ
number_refusal None = 1
number_refusal (Some n) = 0

-- rule 1.5: the value of a field that is a number, else 0
unfoldable pub number_value : Option ℕ → ℕ
number_value None = 0
number_value (Some n) = n

-- the most numbers that a line has behind its word: those of a slave line (rule 1.3)
abbrev pub most_numbers : ℕ
most_numbers = slave_length

-- no numbers
unfoldable pub no_numbers : Numbers
no_numbers = record { count = 0; values = replicate most_numbers 0 }

-- one number more
unfoldable pub with_number : Numbers → ℕ → Numbers
with_number ns n = record { count = ns.count + 1; values = set ns.values ns.count n }

-- the numbers ns and then those of the fields (rule 7.1); none where a field is malformed, or where they are more than
-- `most_numbers` together
unfoldable pub collect : Numbers → List (List ℕ) → Numbers
collect ns [] = ns
collect ns (f ∷ fs) =
    cond (eqb ns.count most_numbers) no_numbers
    (cond (eqb (number_refusal (number_of f)) 0) (collect (with_number ns (number_value (number_of f))) fs) no_numbers)

-- rule 1.3: the numbers of the fields behind a line's first
unfoldable pub numbers_of : List (List ℕ) → Numbers
numbers_of fields = collect no_numbers fields
