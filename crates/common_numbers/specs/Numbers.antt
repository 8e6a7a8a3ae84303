-- The numbers that the rules fix and definitions of several crates need. A definition cannot name a constant of the code.
-- Assumes nothing.
use Rattle.std.specs.Prelude.{ℕ}

-- rule 1.3: how many numbers a slave line has. The code has it as SLAVE_FIELDS.
abbrev pub slave_length : ℕ
slave_length = 8
