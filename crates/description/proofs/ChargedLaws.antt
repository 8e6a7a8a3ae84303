-- What `refused_at` says of a text: the line charged is the first that is refused, and the master that 20 names is the lowest that
-- has no share line (rule 8.3).
-- Assumes nothing.
use mathlib.Core.Bool.{Bool, true, false, cond}
use mathlib.Core.List.{List, [], ◌∷◌}
use mathlib.Core.Logic.{◌≢◌}
use mathlib.Core.Path.{◌≡◌, refl, ap, sym, ◌∙◌}
use Prim.Native.Nat.{ℕ, zero, suc, ◌+◌, ◌≤◌, ◌<◌}
use native.Mathlib.Omega.{arith}
use lib.Dec.{eqb, ltb}
use lib.ListN.{length, take}
use borrow.Author.Tests.{eq-eqb, eqb-true, eqb-false, ltb-false}
use Rattle.description_board.specs.declared.Item.{Item}
use Rattle.description_board.specs.declared.Reading.{Reading}
use Rattle.description_board.specs.Rules.{refused, start, step, step_all, finish, described}
use Rattle.description_board.proofs.StepAllLaws.{run_stays, finish_stays, run_number, end_twenty}
use Rattle.description_board.proofs.EndLaws.{Lowest, end_lowest}
use Rattle.description_lines.specs.Reader.{items_of}
use Rattle.description.specs.Reader.{most_bytes, reading, read_text}
use Rattle.description.specs.Blame.{first_refused, charged_line, master_named_by, named_master, refused_at}
use Rattle.description.proofs.BlameLaws.{first_taken, first_refused_lem}
use Rattle.description.proofs.TextLengths.{reading_short}

-- a list whose lines are all taken, up to its end, has no line refused
first_none : (n : ℕ) (r : Reading) (xs : List Item) → (finish (step_all r xs)).number ≡ 0 → first_refused n r xs ≡ 0
unfolding first_refused step_all
first_none n r [] h = refl
first_none n r (x ∷ xs) h = go (eqb (step r x).number 0) refl (first_none (n + 1) (step r x) xs h)
  where
    stays : ((step r x).number ≡ 0 → ⊥) → finish (step_all (step r x) xs) ≡ step r x
    stays some = ap finish (run_stays (step r x) xs some) ∙ finish_stays (step r x) some

    go :
        (b : Bool) → eqb (step r x).number 0 ≡ b → first_refused (n + 1) (step r x) xs ≡ 0
        → first_refused n r (x ∷ xs) ≡ 0
    go true e rest = first_taken n r (step r x) x xs refl (eqb-true _ _ e) ∙ rest
    go false e rest =
        let some = eqb-false (step r x).number 0 e in
        absurd (some (sym (ap (λ (q : Reading). q.number) (stays some)) ∙ h))

-- a line refused lies behind the n lines before
first_behind : (n : ℕ) (r : Reading) (xs : List Item) (k : ℕ) → first_refused n r xs ≡ k + 1 → n ≤ k
unfolding first_refused
first_behind n r [] k h = absurd (omega arith)
first_behind n r (x ∷ xs) k h = go (eqb (step r x).number 0) refl (λ e. first_behind (n + 1) (step r x) xs k e)
  where
    go :
        (b : Bool) → eqb (step r x).number 0 ≡ b → (first_refused (n + 1) (step r x) xs ≡ k + 1 → n + 1 ≤ k)
        → n ≤ k
    go true e rest =
        let l = rest (sym (first_taken n r (step r x) x xs refl (eqb-true _ _ e)) ∙ h) in omega arith
    go false e rest =
        let l = sym (first_refused_lem n r (step r x) x xs refl (eqb-false _ _ e)) ∙ h in omega arith

-- The line at index k of xs is the first refused: with those before it r has no refusal, with it the refusal of all.
pub record First (r : Reading) (xs : List Item) (k : ℕ) : Type 0 where
  pub within : k < length xs
  pub before : (step_all r (take k xs)).number ≡ 0
  pub here : (step_all r (take (suc k) xs)).number ≡ 0 → ⊥
  pub all : step_all r (take (suc k) xs) ≡ step_all r xs

first_at :
    (n : ℕ) (r : Reading) (xs : List Item) (k : ℕ) → r.number ≡ 0 → first_refused n r xs ≡ n + k + 1 → First r xs k
unfolding first_refused step_all
first_at n r [] k none h = absurd (omega arith)
first_at n r (x ∷ xs) zero none h = go (eqb (step r x).number 0) refl
  where
    go : (b : Bool) → eqb (step r x).number 0 ≡ b → First r (x ∷ xs) 0
    go true e =
        let l =
        first_behind (n + 1) (step r x) xs n
        (sym (first_taken n r (step r x) x xs refl (eqb-true _ _ e)) ∙ h ∙ (omega arith)) in
        absurd (omega arith)
    go false e = record {
      within = omega arith;
      before = none;
      here = eqb-false _ _ e;
      all = sym (run_stays (step r x) xs (eqb-false _ _ e));
    }
first_at n r (x ∷ xs) (suc k) none h = go (eqb (step r x).number 0) refl (λ z e. first_at (n + 1) (step r x) xs k z e)
  where
    go :
        (b : Bool) → eqb (step r x).number 0 ≡ b
        → ((step r x).number ≡ 0 → first_refused (n + 1) (step r x) xs ≡ n + 1 + k + 1 → First (step r x) xs k)
        → First r (x ∷ xs) (suc k)
    go true e rest =
        let z = eqb-true (step r x).number 0 e in
        let f = rest z (sym (first_taken n r (step r x) x xs refl z) ∙ h ∙ (omega arith)) in record {
          within = let w = f.within in omega arith;
          before = f.before;
          here = f.here;
          all = f.all;
        }
    go false e rest =
        let l = sym (first_refused_lem n r (step r x) x xs refl (eqb-false _ _ e)) ∙ h in absurd (omega arith)

-- Nothing refused: no line is charged.
pub charged_none : (s : List ℕ) → (read_text s).number ≡ 0 → (refused_at s).line ≡ 0
unfolding refused_at charged_line read_text described
charged_none s h = go (ltb most_bytes (length s)) refl
  where
    go : (b : Bool) → ltb most_bytes (length s) ≡ b → charged_line s ≡ 0
    go true e = rw e
    go false e =
        rw e
        (first_none 0 start (items_of s)
        (ap (λ (q : Reading). q.number) (sym (reading_short s (ltb-false _ _ e))) ∙ h))

-- A line charged is the first refused, and its refusal is the text's.
pub charged_first :
    (s : List ℕ) (k : ℕ) → (refused_at s).line ≡ k + 1
    → First start (items_of s) k × ((refused_at s).number ≡ (step_all start (take (suc k) (items_of s))).number)
unfolding refused_at charged_line read_text start refused described
charged_first s k h = go (ltb most_bytes (length s)) refl
  where
    go :
        (b : Bool) → ltb most_bytes (length s) ≡ b
        → First start (items_of s) k × ((reading s).number ≡ (step_all start (take (suc k) (items_of s))).number)
    go true e = let z : 0 ≡ k + 1 = rw e at h in absurd (omega arith)
    go false e =
        let l : first_refused 0 start (items_of s) ≡ k + 1 = rw e at h in
        let f = first_at 0 start (items_of s) k refl (l ∙ (omega arith)) in
        let some : (step_all start (items_of s)).number ≡ 0 → ⊥ = rw f.all at f.here in (
          f,
          ap (λ (q : Reading). q.number)
              (reading_short s (ltb-false _ _ e) ∙ finish_stays (step_all start (items_of s)) some ∙ sym f.all),
        )

-- 20 is charged to no line.
pub charged_twenty : (s : List ℕ) → (refused_at s).number ≡ 20 → (refused_at s).line ≡ 0
unfolding start refused
charged_twenty s e = go (refused_at s).line refl
  where
    go : (n : ℕ) → (refused_at s).line ≡ n → n ≡ 0
    go zero h = refl
    go (suc k) h =
        let other = run_number start (take (suc k) (items_of s)) (λ z. omega arith) in
        absurd (other (sym (charged_first s k (h ∙ (omega arith))).1 ∙ e))

-- The master that it names is the lowest that has no share line, on the board of the text's lines.
pub named_lowest : (s : List ℕ) → (refused_at s).number ≡ 20 → Lowest (step_all start (items_of s)).board (refused_at s).master
unfolding refused_at named_master master_named_by read_text reading described start refused
named_lowest s = go (ltb most_bytes (length s)) (run_number start (items_of s) (λ z. omega arith))
  where
    go :
        (b : Bool) → (step_all start (items_of s)).number ≢ 20
        → (cond b (refused 1) (described (items_of s))).number ≡ 20
        → Lowest (step_all start (items_of s)).board (cond b 0 (master_named_by (items_of s)))
    go true other e = absurd (omega arith)
    go false other e =
        rw (eq-eqb (described (items_of s)).number 20 e)
        (end_lowest (step_all start (items_of s)).board (end_twenty (step_all start (items_of s)) other e))
