-- A reading, one answer after another.
-- Assumes nothing.
use Rattle.std.proofs.Common.{Bool, true, false, cond, ◌||◌, List, [], ◌∷◌, ◌++◌, append_assoc, append-nil, inl, inr, ◌≡◌, refl, ap, ap₂, sym, subst, ◌∙◌, ℕ, zero, suc, ◌+◌, ◌-◌, ◌≤◌, ◌<◌, arith, length, take, drop, length-append, length-take-le, Result, Ok, Err}
use Rattle.std.proofs.lemmas.List.{take-append-le}
use lib.Seq.{take-append-add}
use borrow.Rule.Slice.PartMut.{put_mid, same_len_mid}
use Rattle.std.specs.Io.{WritesAtMost}
use Rattle.std.specs.declared.io.Error.{Error}
use Rattle.common_laws.proofs.TextLists.{part_rest_length}
use Rattle.program_streams.specs.Calls.{interrupted, unready, is, number_of, retried, judged, judged_error, Call}
use Rattle.program_streams.specs.Reading.{Answer, gave, failed, given, gathered, Standing, ended, broken, going, standing, Lent, most_reads, Says, Gathered}
use Rattle.program_streams.specs.declared.Outcome.{Outcome}
use Rattle.program_streams.specs.declared.Outcome.TheVariants.{Full, Ended}
use Rattle.program_streams.specs.declared.Outcome.TheVariants as outcome
use Rattle.program_streams.specs.declared.Told.{Told}
use Rattle.program_streams.specs.declared.Told.TheVariants.{Bytes, Nothing, Again, Later, Failed}

-- ---- answers behind others

-- the first answer of a reading that goes on
first_goes : (x : Answer) (rest : List Answer) → standing (x ∷ rest) ≡ going → standing (x ∷ []) ≡ going
unfolding standing
first_goes (gave []) rest h = h
first_goes (gave (b ∷ piece)) rest h = refl
first_goes (failed e) rest h = go (retried e) h
  where
    go : (t : Bool) → cond t (standing rest) (broken e) ≡ going → cond t going (broken e) ≡ going
    go true h = refl
    go false h = h

-- what stands behind such an answer counts
standing_on : (x : Answer) (rest : List Answer) → standing (x ∷ []) ≡ going → standing (x ∷ rest) ≡ standing rest
unfolding standing
standing_on (gave []) rest h = cc
standing_on (gave (b ∷ piece)) rest h = refl
standing_on (failed e) rest h = go (retried e) h
  where
    go : (t : Bool) → cond t going (broken e) ≡ going → cond t (standing rest) (broken e) ≡ standing rest
    go true h = refl
    go false h = cc

gathered_on :
    (x : Answer) (rest : List Answer) → standing (x ∷ []) ≡ going → gathered (x ∷ rest) ≡ given x ++ gathered rest
unfolding standing gathered given
gathered_on (gave []) rest h = cc
gathered_on (gave (b ∷ piece)) rest h = refl
gathered_on (failed e) rest h = go (retried e) h
  where
    go : (t : Bool) → cond t going (broken e) ≡ going → cond t (gathered rest) [] ≡ gathered rest
    go true h = refl
    go false h = cc

gathered_one : (x : Answer) → gathered (x ∷ []) ≡ given x
unfolding gathered given
gathered_one (gave []) = refl
gathered_one (gave (b ∷ piece)) = append-nil (b ∷ piece)
gathered_one (failed e) = go (retried e)
  where
    go : (t : Bool) → ◌≡◌ {A = List ℕ} (cond t [] []) []
    go true = refl
    go false = refl

standing_more : (xs : List Answer) (x : Answer) → standing xs ≡ going → standing (xs ++ (x ∷ [])) ≡ standing (x ∷ [])
unfolding standing
standing_more [] x h = refl
standing_more (y ∷ ys) x h =
    let g = first_goes y ys h in
    standing_on y (ys ++ (x ∷ [])) g ∙ standing_more ys x (sym (standing_on y ys g) ∙ h)

gathered_more : (xs : List Answer) (x : Answer) → standing xs ≡ going → gathered (xs ++ (x ∷ [])) ≡ gathered xs ++ given x
unfolding gathered
gathered_more [] x h = gathered_one x
gathered_more (y ∷ ys) x h =
    let g = first_goes y ys h in
    rw (gathered_on y (ys ++ (x ∷ [])) g, gathered_on y ys g, gathered_more ys x (sym (standing_on y ys g) ∙ h), append_assoc)

-- one read more, into the room that is left
lent_more :
    (room : ℕ) (xs : List Answer) (x : Answer) → standing xs ≡ going → Lent room xs → length (gathered xs) < room
    → length (given x) ≤ room - length (gathered xs) → Lent room (xs ++ (x ∷ []))
unfolding Lent gathered
lent_more room [] x h l s p = (omega arith, omega arith, inr refl, tt)
lent_more room (y ∷ ys) x h l s p =
    let g = first_goes y ys h in
    let e : length (gathered (y ∷ ys)) ≡ length (given y) + length (gathered ys) =
    ap length (gathered_on y ys g) ∙ length-append (given y) (gathered ys)
    in
    let more = lent_more (room - length (given y)) ys x (sym (standing_on y ys g) ∙ h) l.3 in
    (l.0, l.1, inl g, more (omega arith) (omega arith))

-- ---- one read

-- how a reading stands after a call, and where its bytes end
abbrev pub stands : Told → Standing
stands (Bytes n) = going
stands Nothing = ended
stands Again = going
stands Later = going
stands (Failed error) = broken (number_of error)

abbrev pub behind : ℕ → Told → ℕ
behind end (Bytes n) = end + n
behind end Nothing = end
behind end Again = end
behind end Later = end
behind end (Failed error) = end

-- a read's answer, by what it left in the room that it was lent
unfoldable answered : Result ℕ Error → List ℕ → Answer
answered (Ok n) room = gave (take n room)
answered (Err error) room = failed (number_of error)

-- r tells of the answer a of a read into a room
record Tells (room : List ℕ) (a : Answer) (end : ℕ) (r : Told) : Type 0 where
  stand : standing (a ∷ []) ≡ stands r
  count : behind end r ≡ end + length (given a)
  front : take (length (given a)) room ≡ given a
  fits : length (given a) ≤ length room

tells_of :
    (room : List ℕ) (end : ℕ) (went : Result ℕ Error) → WritesAtMost went room
    → Tells room (answered went room) end (judged went)
unfolding answered retried judged judged_error given standing
tells_of room end (Ok zero) m = record { stand = refl; count = omega arith; front = refl; fits = omega arith }
tells_of [] end (Ok (suc n)) m = absurd (omega arith)
tells_of (b ∷ room) end (Ok (suc n)) m =
    let l : length (take (suc n) (b ∷ room)) ≡ suc n = length-take-le (suc n) (b ∷ room) m in
    record {
      stand = refl;
      count = omega arith;
      front = ap (λ (k : ℕ). take k (b ∷ room)) l;
      fits = omega arith;
    }
tells_of room end (Err error) m =
    record {
      stand = stand (is interrupted (number_of error)) (is unready (number_of error));
      count = count (is interrupted (number_of error)) (is unready (number_of error));
      front = refl;
      fits = omega arith;
    }
  where
    stand : (t u : Bool) → cond (t || u) going (broken (number_of error)) ≡ stands (cond t Again (cond u Later (Failed error)))
    stand true u = refl
    stand false true = refl
    stand false false = refl

    count : (t u : Bool) → behind end (cond t Again (cond u Later (Failed error))) ≡ end + 0
    count true u = omega arith
    count false true = omega arith
    count false false = omega arith

-- A reading that stands so: what is in front of `end` is what its answers gave, after so many reads.
pub record Reached (s : Standing) (into : List ℕ) (end reads : ℕ) : Type 0 where
  pub answers : List Answer
  pub handed : take end into ≡ gathered answers
  pub lent : Lent (length into) answers
  pub stands : standing answers ≡ s
  pub counted : length answers ≡ reads
  pub within : end ≤ length into

-- nothing read
pub reached_none : (into : List ℕ) → Reached going into 0 0
unfolding Lent gathered standing
reached_none into =
    record { answers = []; handed = refl; lent = tt; stands = refl; counted = refl; within = omega arith }

-- a room whose part behind `end` was lent and came back
abbrev pub with_room : List ℕ → ℕ → List ℕ → List ℕ
with_room into end room = put_mid end (length into - end) into room

pub length_with :
    (into : List ℕ) (end : ℕ) (room : List ℕ) → length room ≡ length (take (length into - end) (drop end into))
    → length (with_room into end room) ≡ length into
length_with into end room l = same_len_mid end (length into - end) into room l

take_with :
    (into : List ℕ) (end : ℕ) (room : List ℕ) (n : ℕ) → end ≤ length into → n ≤ length room
    → take (end + n) (with_room into end room) ≡ take end into ++ take n room
take_with into end room n g h = go (take end into) _ (length-take-le end into g)
  where
    go :
        (front rest : List ℕ) → length front ≡ end → take (end + n) (front ++ (room ++ rest)) ≡ front ++ take n room
    go front rest e = rw (← e, take-append-add front (room ++ rest) n, take-append-le n room rest h)

-- one read more, into that part
module _
    (into : List ℕ) (end reads : ℕ) (room : List ℕ) (g : Reached going into end reads) (h : end < length into)
    (l : length room ≡ length (take (length into - end) (drop end into)))
  where
    reached_more :
        (a : Answer) (r : Told) → Tells room a end r
        → Reached (stands r) (with_room into end room) (behind end r) (reads + 1)
    reached_more a r t =
        let m : length room ≡ length into - end = l ∙ part_rest_length into end in
        let n : length (gathered g.answers) ≡ end = ap length (sym g.handed) ∙ length-take-le end into g.within in
        let s = length_with into end room l in
        record {
          answers = g.answers ++ (a ∷ []);
          handed =
              ap (λ (k : ℕ). take k (with_room into end room)) t.count
              ∙ take_with into end room (length (given a)) g.within t.fits
              ∙ ap₂ (λ (x y : List ℕ). x ++ y) g.handed t.front
              ∙ sym (gathered_more g.answers a g.stands);
          lent =
              subst
              (λ (k : ℕ). Lent k (g.answers ++ (a ∷ [])))
              (sym s)
              (lent_more (length into) g.answers a g.stands g.lent (omega (arith, n)) (omega (arith, n, m, t.fits)));
          stands = standing_more g.answers a g.stands ∙ t.stand;
          counted = omega (arith, g.counted, length-append g.answers (a ∷ []));
          within = omega (arith, t.count, t.fits, m, s);
        }

    pub reached_next : (r : Told) → Call room r → Reached (stands r) (with_room into end room) (behind end r) (reads + 1)
    reached_next r k =
        subst
        (λ (t : Told). Reached (stands t) (with_room into end room) (behind end t) (reads + 1))
        (sym k.tells)
        (reached_more _ _ (tells_of room end k.went k.moved))

    pub reached_told :
        (r t : Told) → Call room r → r ≡ t
        → Reached (stands t) (with_room into end room) (behind end t) (reads + 1)
    reached_told r t k e =
        subst
        (λ (t : Told). Reached (stands t) (with_room into end room) (behind end t) (reads + 1))
        e
        (reached_next r k)

-- ---- a reading that is over

pub over :
    {s : Standing} (into : List ℕ) (end reads : ℕ) (o : Outcome) → Reached s into end reads → Says o s reads end (length into)
    → Gathered into (record { end = end; outcome = o })
over into end reads o g m =
    record {
      answers = g.answers;
      handed = g.handed;
      lent = g.lent;
      says = rw (g.stands, g.counted) m;
      fits = (g.within, sym (length-take-le end into g.within));
    }

-- by the end of the input, by a failure, by the last of the reads, by a full room
module _ (into : List ℕ) (end reads : ℕ) where
  pub over_ended : Reached ended into end reads → Gathered into (record { end = end; outcome = Ended })
  unfolding Says
  over_ended g = over into end reads Ended g refl

  pub over_failed :
      (e : Error) → Reached (broken (number_of e)) into end reads
      → Gathered into (record { end = end; outcome = outcome.Failed e })
  unfolding Says
  over_failed e g = over into end reads (outcome.Failed e) g (inl refl)

  pub over_spent :
      (e : Error) → Reached going into end reads → reads ≡ most_reads
      → Gathered into (record { end = end; outcome = outcome.Failed e })
  unfolding Says
  over_spent e g h = over into end reads (outcome.Failed e) g (inr (refl, h))

  pub over_full : Reached going into end reads → length into ≤ end → Gathered into (record { end = end; outcome = Full })
  unfolding Says
  over_full g h = over into end reads Full g (refl, omega (arith, g.within))
