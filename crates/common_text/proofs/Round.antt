-- What is written is read back: numbers, a line's fields, lines. And how long it can be.
-- Assumes nothing.
use mathlib.Core.Bool.{Bool, true, false, cond, false≢true}
use mathlib.Core.List.{List, [], ◌∷◌, ◌++◌, append_assoc, append-nil, map}
use mathlib.Core.Path.{◌≡◌, refl, ap, ap₂, sym, ◌∙◌}
use Prim.Native.Nat.{ℕ, zero, suc, ◌+◌, ◌-◌, ◌*◌, ◌/◌, ◌%◌, ◌^◌, ◌≤◌, ◌<◌}
use native.Mathlib.Nat.{pow-suc}
use native.Mathlib.Numerals.{add-one}
use native.Mathlib.Omega.{arith}
use lib.Dec.{ltb, eqb, lit<}
use lib.ListN.{length, get_or, replicate, length-append, get_or-append}
use lib.Seq.{sets}
use borrow.Author.Tests.{eq-eqb, eqb-true, eqb-false, ltb-true, ltb-false}
use Rattle.common_laws.proofs.TextLists.{member_append}
use Rattle.common_laws.specs.Lists.{member}
use Rattle.common_text.specs.Digits.{digits_in, digits, fields_text, line_text}
use Rattle.common_text.specs.Fields.{comma, line_feed, push, split, is_digit, scan}
use Rattle.common_text.specs.Fields.{number_of, most_numbers, no_numbers, with_number, collect, numbers_of}
use Rattle.std.proofs.Common.{Some, None}
use Rattle.common_text.specs.declared.Numbers.{Numbers}
use Rattle.common_text.proofs.Decimal.{digits_in_small, digits_in_large, digits_short, member_digits}
use Rattle.common_text.proofs.Values.{digit_yes, number_one, number_more, collect_value, collect_end}

-- one digit behind a number
pub scan_snoc :
    (a v c : ℕ) (xs : List ℕ) → 48 ≤ c → c ≤ 57 → scan a xs ≡ Some v
    → scan a (xs ++ (c ∷ [])) ≡ Some (v * 10 + (c - 48))
unfolding scan
scan_snoc a v c [] l h e =
    let q : a ≡ v = cc in
    simp (digit_yes c l h, q)
scan_snoc a v c (x ∷ xs) l h e = go (is_digit x) e (scan_snoc (a * 10 + (x - 48)) v c xs l h)
  where
    go :
        (t : Bool) → cond t (scan (a * 10 + (x - 48)) xs) None ≡ Some v
        → (scan (a * 10 + (x - 48)) xs ≡ Some v → scan (a * 10 + (x - 48)) (xs ++ (c ∷ [])) ≡ Some (v * 10 + (c - 48)))
        → cond t (scan (a * 10 + (x - 48)) (xs ++ (c ∷ []))) None ≡ Some (v * 10 + (c - 48))
    go true e more = more e
    go false e more = let z : ◌≡◌ {A = ℕ} 0 1 = cc in absurd (omega arith)

scan_one : (n : ℕ) → n < 10 → scan 0 ((48 + n) ∷ []) ≡ Some n
unfolding scan
scan_one n h =
    let l : 48 ≤ 48 + n = omega arith in
    let g : 48 + n ≤ 57 = omega arith in
    simp (digit_yes (48 + n) l g) (ap Some (omega arith))

-- the digits of n: they spell it, there is at least one, only 0 begins with "0", and a number below 10 has one
pub record Spells (n : ℕ) (l : List ℕ) : Type 0 where
  pub value : scan 0 l ≡ Some n
  pub some : 1 ≤ length l
  pub lead : 1 ≤ n → 49 ≤ get_or l 0 0
  pub one : n < 10 → length l ≡ 1

spells_small : (k n : ℕ) → n < 10 → Spells n (digits_in (suc k) n)
spells_small k n h =
    rw (digits_in_small k n h)
    (record { value = scan_one n h; some = omega arith; lead = λ p. omega arith; one = λ p. refl })

spells_large : (k n : ℕ) → 10 ≤ n → Spells (n / 10) (digits_in k (n / 10)) → Spells n (digits_in (suc k) n)
spells_large k n h s =
    let l = digits_in k (n / 10) in
    rw (digits_in_large k n h)
    (record {
      value = scan_snoc 0 (n / 10) (48 + n % 10) l (omega arith) (omega arith) s.value ∙ ap Some (omega arith);
      some = omega (arith, length-append l ((48 + n % 10) ∷ []));
      lead = λ p. rw (get_or-append l ((48 + n % 10) ∷ []) 0 0 s.some) (s.lead (omega arith));
      one = λ p. absurd (omega arith);
    })

pub spells : (k n : ℕ) → n < 10 ^ (suc k) → Spells n (digits_in (suc k) n)
spells zero n h = spells_small zero n h
spells (suc k) n h = go (ltb n 10) refl (spells k (n / 10))
  where
    go :
        (t : Bool) → ltb n 10 ≡ t → (n / 10 < 10 ^ (suc k) → Spells (n / 10) (digits_in (suc k) (n / 10)))
        → Spells n (digits_in (suc (suc k)) n)
    go true e more = spells_small (suc k) n (ltb-true n 10 e)
    go false e more =
        spells_large (suc k) n (ltb-false n 10 e) (more (omega (arith, pow-suc 10 (suc k))))

pub number_spelt : (n : ℕ) (l : List ℕ) → Spells n l → length l ≤ 10 → number_of l ≡ Some n
number_spelt n l s h = go (ltb n 10) refl (eqb (length l) 1) refl
  where
    go : (t : Bool) → ltb n 10 ≡ t → (u : Bool) → eqb (length l) 1 ≡ u → number_of l ≡ Some n
    go t e true g = number_one l (eqb-true (length l) 1 g) ∙ s.value
    go true e false g = absurd (eqb-false (length l) 1 g (s.one (ltb-true n 10 e)))
    go false e false g =
        let m : length l ≡ 1 → ⊥ = eqb-false (length l) 1 g in
        let k : 49 ≤ get_or l 0 0 = s.lead (omega (arith, ltb-false n 10 e)) in
        number_more l (omega (arith, s.some)) h (λ q. omega arith) ∙ s.value

-- every number of 64 bits is written whole
pub digits_value : (n : ℕ) → n < 10 ^ 20 → scan 0 (digits n) ≡ Some n
unfolding digits
digits_value n h = (spells 19 n h).value

-- a number written and read
pub number_digits : (n : ℕ) → n < 10 ^ 10 → number_of (digits n) ≡ Some n
unfolding digits
number_digits n h = number_spelt n (digits_in 20 n) (spells 19 n (omega arith)) (digits_short n h)

-- a piece that holds no separator, before one and at the end
pub split_piece : (b : ℕ) (xs ys : List ℕ) → member b xs ≡ false → split b (xs ++ (b ∷ ys)) ≡ xs ∷ split b ys
unfolding split push member
split_piece b [] ys h = rw (eq-eqb b b refl)
split_piece b (x ∷ xs) ys h = go (eqb x b) h (split_piece b xs ys)
  where
    go :
        (t : Bool) → cond t true (member b xs) ≡ false
        → (member b xs ≡ false → split b (xs ++ (b ∷ ys)) ≡ xs ∷ split b ys)
        → cond t ([] ∷ split b (xs ++ (b ∷ ys))) (push x (split b (xs ++ (b ∷ ys)))) ≡ (x ∷ xs) ∷ split b ys
    go true h more = absurd (false≢true (sym h))
    go false h more = ap (push x) (more h)

pub split_last : (b : ℕ) (xs : List ℕ) → member b xs ≡ false → split b xs ≡ xs ∷ []
unfolding split push member
split_last b [] h = refl
split_last b (x ∷ xs) h = go (eqb x b) h (split_last b xs)
  where
    go :
        (t : Bool) → cond t true (member b xs) ≡ false → (member b xs ≡ false → split b xs ≡ xs ∷ [])
        → cond t ([] ∷ split b xs) (push x (split b xs)) ≡ (x ∷ xs) ∷ []
    go true h more = absurd (false≢true (sym h))
    go false h more = ap (push x) (more h)

-- a line's fields
pub split_fields :
    (word ns : List ℕ) → member comma word ≡ false → split comma (word ++ fields_text ns) ≡ word ∷ map digits ns
unfolding fields_text
split_fields word [] h = ap (split comma) (append-nil word) ∙ split_last comma word h
split_fields word (n ∷ ns) h =
    split_piece comma word (digits n ++ fields_text ns) h
    ∙ ap (λ (l : List (List ℕ)). word ∷ l) (split_fields (digits n) ns (member_digits comma n (lit< tt)))

-- no line feed is in a line before its end
pub member_fields : (ns : List ℕ) → member line_feed (fields_text ns) ≡ false
unfolding fields_text member
member_fields [] = refl
member_fields (n ∷ ns) =
    member_append line_feed (digits n) (fields_text ns) (member_digits line_feed n (lit< tt)) (member_fields ns)

-- the first line of a text
pub split_line :
    (word ns rest : List ℕ) → member line_feed word ≡ false
    → split line_feed (line_text word ns ++ rest) ≡ (word ++ fields_text ns) ∷ split line_feed rest
unfolding line_text
split_line word ns rest h =
    ap (split line_feed) (simp append_assoc)
    ∙ split_piece line_feed (word ++ fields_text ns) rest (member_append line_feed word (fields_text ns) h (member_fields ns))

-- each number has at most 10 digits
abbrev pub Short : List ℕ → Type 0
Short [] = Unit {0}
Short (n ∷ ns) = (n < 10 ^ 10) × Short ns

-- numbers as a line holds them
abbrev pub numbered : List ℕ → Numbers
numbered ns = record { count = length ns; values = sets (replicate most_numbers 0) 0 ns }

-- the numbers ms and then ns
abbrev pub more : Numbers → List ℕ → Numbers
more ms ns = record { count = ms.count + length ns; values = sets ms.values ms.count ns }

-- none more, and one more in front
pub more_none : (ms : Numbers) → ms ≡ more ms []
more_none ms = ap (λ (k : ℕ). record { count = k; values = ms.values }) (omega arith)

pub more_one : (ms : Numbers) (n : ℕ) (ns : List ℕ) → more (with_number ms n) ns ≡ more ms (n ∷ ns)
unfolding with_number
more_one ms n ns = ap₂ (λ (k : ℕ) (l : List ℕ). record { count = k; values = l }) (omega arith) (rw add-one)

collect_digits : (ms : Numbers) (ns : List ℕ) → ms.count + length ns ≤ most_numbers → Short ns
    → collect ms (map digits ns) ≡ more ms ns
unfolding with_number
collect_digits ms [] h s = collect_end ms ∙ more_none ms
collect_digits ms (n ∷ ns) h s =
    collect_value ms (digits n) (map digits ns) n (λ e. omega arith) (number_digits n s.0)
    ∙ collect_digits (with_number ms n) ns (omega arith) s.1
    ∙ more_one ms n ns

-- a line's numbers written and read
pub numbers_digits : (ns : List ℕ) → length ns ≤ most_numbers → Short ns → numbers_of (map digits ns) ≡ numbered ns
unfolding numbers_of no_numbers
numbers_digits ns h s =
    collect_digits no_numbers ns (omega arith) s
    ∙ ap (λ (k : ℕ). record { count = k; values = sets (replicate most_numbers 0) 0 ns }) (omega arith)
