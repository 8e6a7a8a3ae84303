-- Gives the code of fabric_begin its shape: a clock's refusal by its parts.
-- Assumes nothing.
use Rattle.std.specs.Prelude.{Bool, cond, not, ◌||◌, ℕ, eqb}
use Rattle.fabric_transfer.specs.Bytes.{buffer_length}

-- `clock_refusal` of the board's number, the bytes its spans take together, whether the state breaks no rule, and both lengths
unfoldable pub clock_refusal_by : ℕ → ℕ → Bool → ℕ → ℕ → ℕ
clock_refusal_by number room sound memory buffer =
    cond (not (eqb number 0)) number
    (cond (not (eqb memory room) || not (eqb buffer buffer_length)) 8
    (cond (not sound) 9
    0))
