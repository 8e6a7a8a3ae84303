-- `common_numbers::Refusal::number` meets its contract: the code numbers the refusals as the definition does.
-- Assumes nothing.
use Rattle.std.proofs.Common.{◌≡◌, ◌+◌, refl}
use denote.Enum.Declared.{tag_of}
use Rattle.common_numbers.specs.Refusals.{refusal_number}
use Rattle.common_numbers.specs.contracts.Refusal.{the_type}
use Rattle.common_numbers.specs.declared.Refusal.{Refusal}
use Rattle.common_numbers.specs.declared.Refusal.TheVariants.{BadText, BadOrder, BadValue, BadBase, Overlap, SpanTotal, BadShare, BadLength, BadState, ShortOutput, NoMaster, Held, BadBeats, BadAddress, BadLanes, NotConnected, PastEnd, BadWords, TooNarrow, NoShare, ShareOrder, EmptyLog}
use Rattle.common_numbers.proofs.Refusal.number.Goals as goal

numbered : (e : Refusal) → tag_of the_type e + 1 ≡ refusal_number e
unfolding refusal_number
numbered BadText = refl
numbered BadOrder = refl
numbered BadValue = refl
numbered BadBase = refl
numbered Overlap = refl
numbered SpanTotal = refl
numbered BadShare = refl
numbered BadLength = refl
numbered BadState = refl
numbered ShortOutput = refl
numbered NoMaster = refl
numbered Held = refl
numbered BadBeats = refl
numbered BadAddress = refl
numbered BadLanes = refl
numbered NotConnected = refl
numbered PastEnd = refl
numbered BadWords = refl
numbered TooNarrow = refl
numbered NoShare = refl
numbered ShareOrder = refl
numbered EmptyLog = refl

pub returns : goal.returns
returns c = numbered c.args.self
