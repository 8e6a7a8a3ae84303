-- The lines of a text, read and counted from a position of it on.
-- Assumes nothing.
use Rattle.std.specs.Prelude.{Result, Ok, Err, IfErr}
use mathlib.Core.Bool.{Bool, true, false, cond}
use mathlib.Core.List.{List, ◌∷◌}
use mathlib.Core.Logic.{◌≢◌}
use mathlib.Core.Path.{◌≡◌, refl, ap, ap₂, sym, ◌∙◌}
use Prim.Native.Nat.{ℕ, ◌+◌, ◌≤◌, ◌<◌}
use native.Mathlib.Omega.{arith}
use lib.Dec.{eqb}
use lib.ListN.{length, drop, replicate, drop_of_length-le}
use borrow.Author.Tests.{lt-ltb, le-ltb, eq-eqb, ne_eqb}
use Rattle.common_text.specs.Fields.{split}
use Rattle.common_numbers.specs.declared.Refusal.{Refusal}
use Rattle.common_numbers.specs.declared.Refusal.TheVariants.{BadText}
use Rattle.common_numbers.specs.Refusals.{refusal_number}
use Rattle.common_numbers.proofs.RefusalLaws.{refusal_not_zero}
use Rattle.description_board.specs.declared.Item.{Item}
use Rattle.description_board.specs.declared.Reading.{Reading}
use Rattle.description_board.specs.Rules.{refused, start, step, step_all, without_share, finish, described}
use Rattle.description_board.proofs.StepAllLaws.{run_stays, finish_stays, step_number}
use Rattle.description_layout.specs.Layout.{board_length, board_in, numbers_of_board}
use Rattle.description_layout.proofs.BoardLaws.{board_none}
use Rattle.description_layout.proofs.NumbersLaws.{numbers_read}
use Rattle.description_rules.specs.Code.Readings.{reading_of}
use Rattle.description_lines.specs.Reader.{items_of, items_of_pieces, unended}
use Rattle.description_lines.specs.Code.LineFrom.{LineFrom}
use Rattle.description.specs.Reader.{most_bytes, reading, read_text}
use Rattle.description.specs.declared.Blame.{Blame}
use Rattle.description.specs.declared.Charged.TheVariants.{Line, Text}
use Rattle.description.specs.Blame.{first_refused, charged_line, master_named_by, named_master}
use Rattle.description.specs.Blame.{Charge, refused_at, charge_of, charged_by}
use Rattle.description.specs.Lent.{Read}
use Rattle.description.specs.Code.Reading.{named, Comes, LinesCome}
use Rattle.description.proofs.TextLengths.{reading_short, reading_long}

-- one line more
module _ (n : ℕ) (r q : Reading) (x : Item) (xs : List Item) (eq : q ≡ step r x) where
  pub first_taken : q.number ≡ 0 → first_refused n r (x ∷ xs) ≡ first_refused (n + 1) q xs
  unfolding first_refused
  first_taken h = rw (← eq, eq-eqb _ _ h)

  pub first_refused_lem : (q.number ≡ 0 → ⊥) → first_refused n r (x ∷ xs) ≡ n + 1
  unfolding first_refused
  first_refused_lem h = rw (← eq, ne_eqb _ _ h)

-- n lines of s before `at` have been read into r, and none was refused; the lines from there on are still to come
pub record Counted (s : List ℕ) (r : Reading) (n at : ℕ) : Type 0 where
  pub place : at ≤ length s
  pub each : n ≤ at
  pub none : r.number ≡ 0
  pub run : step_all start (items_of s) ≡ step_all r (items_of (drop at s))
  pub line : first_refused 0 start (items_of s) ≡ first_refused n r (items_of (drop at s))

-- before the first line
pub counted_none : (s : List ℕ) (r : Reading) → r ≡ start → Counted s r 0 0
unfolding start refused
counted_none s r e = record {
  place = omega arith;
  each = omega arith;
  none = ap (λ (x : Reading). x.number) e;
  run = rw e;
  line = rw e;
}

-- q, the line charged and the master named are what the whole text comes to
pub record Whole (s : List ℕ) (q : Reading) (line master : ℕ) : Type 0 where
  pub reading : q ≡ described (items_of s)
  pub charged : line ≡ first_refused 0 start (items_of s)
  pub named : master ≡ master_named_by (items_of s)

-- the master named at the end: q has finished what r has read
end_named : (xs : List Item) (r q : Reading) (master lowest : ℕ) → step_all start xs ≡ r → q ≡ finish r
    → lowest ≡ without_share r.board → master ≡ cond (eqb q.number 20) lowest 0 → master ≡ master_named_by xs
unfolding master_named_by described
end_named xs r q master lowest e f g h = h ∙ rw (e, f, g)

-- none if a line is refused
line_named : (xs : List Item) → ((described xs).number ≡ 20 → ⊥) → 0 ≡ master_named_by xs
unfolding master_named_by
line_named xs h = rw (ne_eqb (described xs).number 20 h)

module _ (s : List ℕ) (r q : Reading) (n at : ℕ) (before : Counted s r n at) where
  -- after the last line
  pub counted_end : (master lowest : ℕ) → length s ≤ at → q ≡ finish r → lowest ≡ without_share r.board
      → master ≡ cond (eqb q.number 20) lowest 0 → Whole s q 0 master
  unfolding described step_all first_refused items_of items_of_pieces unended split
  counted_end master lowest h e found named =
      let none = drop_of_length-le s h in
      let run : step_all start (items_of s) ≡ r = rw none at before.run in record {
        reading = e ∙ sym (ap finish run);
        charged = sym (rw none at before.line);
        named = end_named (items_of s) r q master lowest run e found named;
      }

  -- q has read one line more
  module _ (x : Item) (next : ℕ) (line : LineFrom s at x next) (e : q ≡ step r x) where
    goes_on : step_all start (items_of s) ≡ step_all q (items_of (drop next s))
    unfolding step_all
    goes_on = before.run ∙ rw (line.lines, e)

    pub counted_next : q.number ≡ 0 → Counted s q (n + 1) next
    counted_next none = record {
      place = line.within;
      each = let l = before.each in let m = line.onward in omega arith;
      none = none;
      run = goes_on;
      line = before.line ∙ rw line.lines (first_taken n r q x _ e none);
    }

    pub not_twenty : q.number ≡ 20 → ⊥
    not_twenty z = step_number r x (λ y. omega (arith, before.none)) (rw e at z)

    pub counted_refused : (q.number ≡ 0 → ⊥) → Whole s q (n + 1) 0
    unfolding described
    counted_refused some =
        let all : described (items_of s) ≡ q =
        ap finish (goes_on ∙ run_stays q (items_of (drop next s)) some) ∙ finish_stays q some in
        let other : (described (items_of s)).number ≢ 20 = rw (all, e) (step_number r x (λ z. omega (arith, before.none))) in record {
          reading = sym all;
          charged = sym (before.line ∙ rw line.lines (first_refused_lem n r q x _ e some));
          named = line_named (items_of s) other;
        }

-- what is charged is what the numbers say
charged_line_lem : (e : Refusal) (n : ℕ) → (refusal_number e ≡ 20 → ⊥) → Line (n + 1) ≡ charged_by (charge_of (Err (record { refusal = e; charged = Line (n + 1) })))
unfolding charged_by
charged_line_lem e n h = rw (ne_eqb (refusal_number e) 20 h, ne_eqb (n + 1) 0 (λ z. omega (arith, z)))

module _ (e : Refusal) (lowest : ℕ) where
  named_lem : (t : Bool) → eqb (refusal_number e) 20 ≡ t
      → (charge_of (Err (named e lowest)) ≡ record { number = refusal_number e; line = 0; master = cond t lowest 0 })
      × ((named e lowest).charged ≡ charged_by (charge_of (Err (named e lowest))))
  unfolding named charged_by
  named_lem true h = rw h (refl, refl)
  named_lem false h = rw h (refl, refl)

-- the same of an answer, and a reading whose board is an array: a line refused, the end refused, nothing refused
module _ (s l : List ℕ) where
  pub line_comes : (e : Refusal) (n : ℕ) → Whole s (reading_of (Err e) l) (n + 1) 0 → (refusal_number e ≡ 20 → ⊥)
      → LinesCome s l (Err (record { refusal = e; charged = Line (n + 1) }))
  unfolding reading_of
  line_comes e n w h = record {
    charge = ap₂ (λ (q : Reading) (k : ℕ). record { number = q.number; line = k; master = 0 }) w.reading w.charged
        ∙ ap (λ (m : ℕ). record { number = (described (items_of s)).number; line = first_refused 0 start (items_of s); master = m }) w.named;
    charged = charged_line_lem e n h;
    board = ap (λ (q : Reading). q.board) w.reading;
  }

  pub end_comes : (e : Refusal) (lowest : ℕ) (b : Blame)
      → Whole s (reading_of (Err e) l) 0 (cond (eqb (refusal_number e) 20) lowest 0) → b ≡ named e lowest → LinesCome s l (Err b)
  unfolding reading_of
  end_comes e lowest b w h =
      let p = named_lem e lowest (eqb (refusal_number e) 20) refl in
      rw h (record {
        charge = p.0
            ∙ ap₂ (λ (q : Reading) (k : ℕ). record { number = q.number; line = k; master = cond (eqb (refusal_number e) 20) lowest 0 }) w.reading w.charged
            ∙ ap (λ (m : ℕ). record { number = (described (items_of s)).number; line = first_refused 0 start (items_of s); master = m }) w.named;
        charged = p.1;
        board = ap (λ (q : Reading). q.board) w.reading;
      })

  pub none_comes : (above : ℕ) (u : Unit) → Whole s (reading_of (Ok above) l) 0 0 → LinesCome s l (Ok u)
  unfolding reading_of
  none_comes above u w = record {
    charge = ap₂ (λ (q : Reading) (k : ℕ). record { number = q.number; line = k; master = 0 }) w.reading w.charged
        ∙ ap (λ (m : ℕ). record { number = (described (items_of s)).number; line = first_refused 0 start (items_of s); master = m }) w.named;
    charged = tt;
    board = ap (λ (q : Reading). q.board) w.reading;
  }

-- the length goes first
module _ (s l : List ℕ) where
  pub comes_short : (r : Result Unit Blame) → length s ≤ most_bytes
      → LinesCome s l r → Comes (reading s) (charged_line s) (named_master s) l r
  unfolding charged_line named_master
  comes_short r h e =
      rw (reading_short s h, le-ltb most_bytes (length s) h) e

  pub comes_long : most_bytes < length s → l ≡ replicate board_length 0
      → Comes (reading s) (charged_line s) (named_master s) l (Err (record { refusal = BadText; charged = Text }))
  unfolding charged_line named_master charged_by refused
  comes_long h z =
      rw (reading_long s h, lt-ltb most_bytes (length s) h)
      (record { charge = refl; charged = refl; board = rw (z, board_none) })

-- what is answered and what the array holds then
module _ (s l : List ℕ) where
  pub read_refused : (before : List ℕ) (b : Blame) → Comes (reading s) (charged_line s) (named_master s) l (Err b)
      → Read s before before (refusal_number b.refusal)
  unfolding read_text
  read_refused before b e = record {
    number = ap (λ (c : Charge). c.number) e.charge;
    board = λ z. refusal_not_zero b.refusal z;
    numbers = λ z. refusal_not_zero b.refusal z;
    kept = λ _. refl;
  }

  pub read_taken : (before after : List ℕ) (u : Unit) → Comes (reading s) (charged_line s) (named_master s) l (Ok u)
      → after ≡ numbers_of_board (board_in l) → Read s before after 0
  unfolding read_text
  read_taken before after u e put = record {
    number = ap (λ (c : Charge). c.number) e.charge;
    board = λ _. ap board_in put ∙ numbers_read l ∙ e.board;
    numbers = λ _. put ∙ ap numbers_of_board e.board;
    kept = λ z. absurd (z refl);
  }

  pub refusal_is : (r : Result Unit Blame) → Comes (reading s) (charged_line s) (named_master s) l r
      → (charge_of r ≡ refused_at s) × IfErr r (λ b. b.charged ≡ charged_by (refused_at s))
  unfolding refused_at read_text
  refusal_is (Ok u) e = (e.charge, tt)
  refusal_is (Err b) e = (e.charge, e.charged ∙ ap charged_by e.charge)
