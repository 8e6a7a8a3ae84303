-- Refusals and their numbers, and what is answered: a refusal or a value (section 7).
-- Assumes nothing.
use Rattle.std.specs.Prelude.{ℕ, Result, Ok, Err}
use Rattle.common_numbers.specs.declared.Refusal.{Refusal}
use Rattle.common_numbers.specs.declared.Refusal.TheVariants.{BadText, BadOrder, BadValue, BadBase, Overlap, SpanTotal, BadShare, BadLength, BadState, ShortOutput, NoMaster, Held, BadBeats, BadAddress, BadLanes, NotConnected, PastEnd, BadWords, TooNarrow, NoShare, ShareOrder, EmptyLog}

-- refusal k is rule 7.k
abbrev pub refusal_number : Refusal → ℕ
refusal_number BadText = 1
refusal_number BadOrder = 2
refusal_number BadValue = 3
refusal_number BadBase = 4
refusal_number Overlap = 5
refusal_number SpanTotal = 6
refusal_number BadShare = 7
refusal_number BadLength = 8
refusal_number BadState = 9
refusal_number ShortOutput = 10
refusal_number NoMaster = 11
refusal_number Held = 12
refusal_number BadBeats = 13
refusal_number BadAddress = 14
refusal_number BadLanes = 15
refusal_number NotConnected = 16
refusal_number PastEnd = 17
refusal_number BadWords = 18
refusal_number TooNarrow = 19
refusal_number NoShare = 20
refusal_number ShareOrder = 21
refusal_number EmptyLog = 22

-- the refusal in an answer, by its number; 0 of one that is not refused
abbrev pub refusal_in : {A : Type 0} → Result A Refusal → ℕ
refusal_in (Ok x) = 0
refusal_in (Err e) = refusal_number e

-- the value of an answer that is not refused; of a refusal the zero that is handed in
abbrev pub answer_or : {A : Type 0} → A → Result A Refusal → A
answer_or zero (Ok x) = x
answer_or zero (Err e) = zero
