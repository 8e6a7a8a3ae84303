-- What one call of read or write did, by its answer.
-- Assumes nothing.
use Rattle.std.specs.Prelude.{Bool, false, cond, ◌||◌, List, ◌≡◌, ℕ, zero, suc, eqb, ℤ, pos, negsuc, unwrap_or, Result, Ok, Err}
use Rattle.std.specs.Io.{WritesAtMost}
use Rattle.std.specs.IoError.{raw_os_error}
use Rattle.std.specs.declared.io.Error.{Error}
use Rattle.program_streams.specs.declared.Told.{Told}
use Rattle.program_streams.specs.declared.Told.TheVariants.{Bytes, Nothing, Again, Later, Failed}

-- the operating system's number of an error, 0 where it has none
unfoldable pub number_of : Error → ℤ
number_of error = unwrap_or (raw_os_error error) (pos 0)

-- EINTR: a signal came before a byte was moved
abbrev pub interrupted : ℕ
interrupted = 4

-- EAGAIN: the call would have to wait, and the descriptor says that it is not to
abbrev pub unready : ℕ
unready = 11

-- error is the one with the number n
unfoldable pub is : ℕ → ℤ → Bool
is n (pos k) = eqb k n
is n (negsuc k) = false

-- the errors after which a call is tried again
unfoldable pub retried : ℤ → Bool
retried error = is interrupted error || is unready error

-- what a call did that failed with an error
unfoldable pub judged_error : Error → Told
judged_error error = cond (is interrupted (number_of error)) Again (cond (is unready (number_of error)) Later (Failed error))

-- what a call of read or write did that went so: 0 bytes alone are the end
unfoldable pub judged : Result ℕ Error → Told
judged (Ok zero) = Nothing
judged (Ok (suc n)) = Bytes (suc n)
judged (Err error) = judged_error error

-- r tells of a call that was lent `bytes`. Of its answer nothing is promised but that it moved no more than their number.
pub record Call (bytes : List ℕ) (r : Told) : Type 0 where
  pub went : Result ℕ Error
  pub moved : WritesAtMost went bytes
  pub tells : r ≡ judged went
