-- What the reads of an input hand on: the bytes that they gave, up to the first that gave none. Only that one is the end of the
-- input: a read that fails is tried again, or the reading has failed.
-- Assumes nothing.
use Rattle.std.specs.Prelude.{cond, List, [], ◌∷◌, ◌++◌, ◌⊎◌, ◌≡◌, ℕ, ◌-◌, ◌^◌, ◌≤◌, ◌<◌, ℤ, length, take}
use Rattle.io.specs.Counts.{IsPrefixLen}
use Rattle.program_streams.specs.Calls.{retried, number_of}
use Rattle.program_streams.specs.declared.Got.{Got}
use Rattle.program_streams.specs.declared.Outcome.{Outcome}
use Rattle.program_streams.specs.declared.Outcome.TheVariants.{Full, Ended, Failed}

-- what one read did: it gave bytes, none at the end of the input, or it failed with an error
pub data Answer : Type 0 where
  gave : List ℕ → Answer
  failed : ℤ → Answer

-- the bytes that an answer gave
unfoldable pub given : Answer → List ℕ
given (gave piece) = piece
given (failed error) = []

-- what the answers gave, up to the first that gave nothing or failed for good
unfoldable pub gathered : List Answer → List ℕ
gathered [] = []
gathered (gave [] ∷ rest) = []
gathered (gave (b ∷ piece) ∷ rest) = (b ∷ piece) ++ gathered rest
gathered (failed error ∷ rest) = cond (retried error) (gathered rest) []

-- how a reading stands: the input has ended, a read has failed for good with an error, or neither
pub data Standing : Type 0 where
  ended : Standing
  broken : ℤ → Standing
  going : Standing

-- how it stands after these answers
unfoldable pub standing : List Answer → Standing
standing [] = going
standing (gave [] ∷ rest) = ended
standing (gave (b ∷ piece) ∷ rest) = standing rest
standing (failed error ∷ rest) = cond (retried error) (standing rest) (broken error)

-- Each read was lent the room that those before it left, one byte at least, and gave no more than that. None follows the end or
-- a failure for good.
unfoldable pub Lent : ℕ → List Answer → Type 0
Lent room [] = Unit {0}
Lent room (answer ∷ rest) =
    (0 < room) × (length (given answer) ≤ room) × (standing (answer ∷ []) ≡ going ⊎ rest ≡ [])
    × Lent (room - length (given answer)) rest

-- the most reads that a reading makes
abbrev pub most_reads : ℕ
most_reads = 2 ^ 64 - 1

-- What an outcome says of a reading that stands so after so many reads, with `end` bytes of the room filled: the input has ended; the
-- room is full, with neither the end nor a failure before; or a read has failed for good, with that error, or no read is left.
unfoldable pub Says : Outcome → Standing → ℕ → ℕ → ℕ → Type 0
Says Ended s reads end room = s ≡ ended
Says Full s reads end room = (s ≡ going) × (end ≡ room)
Says (Failed error) s reads end room = (s ≡ broken (number_of error)) ⊎ (s ≡ going) × (reads ≡ most_reads)

-- a read has failed for good, or no read is left
abbrev pub IsFailed : Outcome → Type 0
IsFailed Ended = ⊥
IsFailed Full = ⊥
IsFailed (Failed error) = Unit {0}

-- r tells of a reading, after which `bytes` is the room that was lent: in front of `end` stands what its reads gave
pub record Gathered (bytes : List ℕ) (r : Got) : Type 0 where
  pub answers : List Answer
  pub handed : take r.end bytes ≡ gathered answers
  pub lent : Lent (length bytes) answers
  pub says : Says r.outcome (standing answers) (length answers) r.end (length bytes)
  pub fits : IsPrefixLen r.end bytes
