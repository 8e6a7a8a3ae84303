-- Laws of refusals and answers: what a number tells of them.
-- Assumes nothing.
use Rattle.std.proofs.Common.{◌≡◌, ℕ, ◌<◌, ◌∷◌, [], Result, Ok, Err, get_or, refl, ap, sym, ◌∙◌, arith, rules}
use Rattle.common_numbers.specs.Refusals.{refusal_number, refusal_in, answer_or}
use Rattle.common_numbers.specs.declared.Refusal.{Refusal}
use Rattle.common_numbers.specs.declared.Refusal.TheVariants.{BadText, BadOrder, BadValue, BadBase, Overlap, SpanTotal, BadShare, BadLength, BadState, ShortOutput, NoMaster, Held, BadBeats, BadAddress, BadLanes, NotConnected, PastEnd, BadWords, TooNarrow, NoShare, ShareOrder, EmptyLog}

-- no refusal has the number of an answer that is not refused
pub refusal_positive : (e : Refusal) → 0 < refusal_number e
unfolding refusal_number
refusal_positive BadText = search rules
refusal_positive BadOrder = search rules
refusal_positive BadValue = search rules
refusal_positive BadBase = search rules
refusal_positive Overlap = search rules
refusal_positive SpanTotal = search rules
refusal_positive BadShare = search rules
refusal_positive BadLength = search rules
refusal_positive BadState = search rules
refusal_positive ShortOutput = search rules
refusal_positive NoMaster = search rules
refusal_positive Held = search rules
refusal_positive BadBeats = search rules
refusal_positive BadAddress = search rules
refusal_positive BadLanes = search rules
refusal_positive NotConnected = search rules
refusal_positive PastEnd = search rules
refusal_positive BadWords = search rules
refusal_positive TooNarrow = search rules
refusal_positive NoShare = search rules
refusal_positive ShareOrder = search rules
refusal_positive EmptyLog = search rules

-- so nothing has a refusal of number 0
pub refusal_not_zero : {P : Type 0} (e : Refusal) → refusal_number e ≡ 0 → P
refusal_not_zero e h = absurd (omega (arith, refusal_positive e))

-- an answer of number 0 is not refused
pub not_refused_is_ok : {A : Type 0} (zero : A) (r : Result A Refusal) → refusal_in r ≡ 0 → r ≡ Ok (answer_or zero r)
not_refused_is_ok zero (Ok x) h = refl
not_refused_is_ok zero (Err e) h = refusal_not_zero e h

-- an answer whose number is not 0 is a refusal
pub refused_is_err : {A : Type 0} (r : Result A Refusal) → (refusal_in r ≡ 0 → ⊥) → (e : Refusal) × (r ≡ Err e)
refused_is_err (Ok x) h = absurd (h refl)
refused_is_err (Err e) h = (e, refl)

-- the refusal of a number; of no use but to tell refusals apart
refusal_of : ℕ → Refusal
refusal_of n = get_or (BadText ∷ BadText ∷ BadOrder ∷ BadValue ∷ BadBase ∷ Overlap ∷ SpanTotal ∷ BadShare ∷ BadLength ∷ BadState ∷ ShortOutput ∷ NoMaster ∷ Held ∷ BadBeats ∷ BadAddress ∷ BadLanes ∷ NotConnected ∷ PastEnd ∷ BadWords ∷ TooNarrow ∷ NoShare ∷ ShareOrder ∷ EmptyLog ∷ []) n BadText

refusal_of_number : (e : Refusal) → refusal_of (refusal_number e) ≡ e
unfolding refusal_number refusal_of
refusal_of_number BadText = refl
refusal_of_number BadOrder = refl
refusal_of_number BadValue = refl
refusal_of_number BadBase = refl
refusal_of_number Overlap = refl
refusal_of_number SpanTotal = refl
refusal_of_number BadShare = refl
refusal_of_number BadLength = refl
refusal_of_number BadState = refl
refusal_of_number ShortOutput = refl
refusal_of_number NoMaster = refl
refusal_of_number Held = refl
refusal_of_number BadBeats = refl
refusal_of_number BadAddress = refl
refusal_of_number BadLanes = refl
refusal_of_number NotConnected = refl
refusal_of_number PastEnd = refl
refusal_of_number BadWords = refl
refusal_of_number TooNarrow = refl
refusal_of_number NoShare = refl
refusal_of_number ShareOrder = refl
refusal_of_number EmptyLog = refl

-- two refusals of one number are one
pub same_refusal : (d e : Refusal) → refusal_number d ≡ refusal_number e → d ≡ e
same_refusal d e h = sym (refusal_of_number d) ∙ ap refusal_of h ∙ refusal_of_number e

-- two answers that tell no more than a refusal, of one number, are one
pub same_answer : (r s : Result Unit Refusal) → refusal_in r ≡ refusal_in s → r ≡ s
same_answer (Ok x) (Ok y) h = refl
same_answer (Ok x) (Err e) h = refusal_not_zero e (sym h)
same_answer (Err d) (Ok y) h = refusal_not_zero d h
same_answer (Err d) (Err e) h = ap Err (same_refusal d e h)
