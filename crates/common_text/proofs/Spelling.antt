-- What is read is what stands there: a field that is a number is that number's digits, and a text is its pieces.
-- Assumes nothing.
use mathlib.Core.Bool.{Bool, true, false, cond}
use mathlib.Core.List.{List, [], ◌∷◌, ◌++◌, append_assoc, append-nil, map}
use mathlib.Core.Path.{◌≡◌, refl, ap, ap₂, sym, ◌∙◌}
use Prim.Native.Nat.{ℕ, ◌+◌, ◌-◌, ◌*◌, ◌/◌, ◌%◌, ◌^◌, ◌≤◌, ◌<◌}
use native.Mathlib.Omega.{arith}
use lib.Dec.{eqb}
use lib.ListN.{length, get_or, drop, replicate, get_or-append}
use lib.Seq.{sets-eq}
use borrow.Author.Tests.{eqb-true, eqb-false}
use Rattle.common_laws.specs.Lists.{table}
use Rattle.common_laws.proofs.FillLaws.{table_is}
use Rattle.common_text.specs.Digits.{digits, fields_text, line_text}
use Rattle.common_text.specs.Fields.{comma, line_feed, push, split, scan, zero_digit, shaped, number_of, number_refusal}
use Rattle.common_text.specs.Fields.{most_numbers, no_numbers, with_number, collect, numbers_of}
use Rattle.std.proofs.Common.{Option, Some, None}
use Rattle.common_text.specs.declared.Numbers.{Numbers}
use Rattle.common_text.proofs.Decimal.{digits_small, digits_large}
use Rattle.common_text.proofs.Round.{numbered, more, more_none, more_one}
use Rattle.common_text.proofs.Values.{digit_low, digit_high, digit_yes, value_more, value_bound}
use Rattle.common_text.proofs.Values.{number_none, number_long, number_zero}
use Rattle.common_text.proofs.Values.{collect_full, collect_malformed, collect_value, collect_end}

-- a malformed field has no value
no_value : {n : ℕ} → None ≡ Some n → ⊥
unfolding number_refusal
no_value e = let z = ap number_refusal e in omega arith

-- the first byte of a number is a digit's, and the others spell the rest
scan_first :
    (a n c : ℕ) (cs : List ℕ) → scan a (c ∷ cs) ≡ Some n
    → (48 ≤ c) × ((c ≤ 57) × (scan (a * 10 + (c - 48)) cs ≡ Some n))
unfolding scan
scan_first a n c cs e =
    let l : c < 48 → ⊥ = λ h. no_value (rw (digit_low c h) at e) in
    let g : 57 < c → ⊥ = λ h. no_value (rw (digit_high c h) at e) in
    (omega arith, (omega arith, rw (digit_yes c (omega arith) (omega arith)) at e))

-- one digit behind those of a, which is not 0
digits_snoc : (a c : ℕ) → 1 ≤ a → a < 10 ^ 10 → 48 ≤ c → c ≤ 57 → digits (a * 10 + (c - 48)) ≡ digits a ++ (c ∷ [])
digits_snoc a c h g l m =
    let others : (a * 10 + (c - 48)) / 10 ≡ a = omega arith in
    let last : 48 + (a * 10 + (c - 48)) % 10 ≡ c = omega arith in
    digits_large (a * 10 + (c - 48)) (omega arith) (omega arith)
    ∙ ap₂ (λ (q d : ℕ). digits q ++ (d ∷ [])) others last

-- the number that bytes spell behind the digits of a, which can be 0 only where there are no such bytes
scan_digits :
    (k a n : ℕ) (cs : List ℕ) → a < 10 ^ k → k + length cs ≤ 10 → (1 ≤ length cs → 1 ≤ a) → scan a cs ≡ Some n
    → digits n ≡ digits a ++ cs
unfolding scan
scan_digits k a n [] b h p e =
    let q : n ≡ a = cc in
    ap digits q ∙ sym (append-nil (digits a))
scan_digits k a n (c ∷ cs) b h p e =
    let s = scan_first a n c cs e in
    let l = s.0 in
    let g = s.1.0 in
    let some : 1 ≤ a = p (omega arith) in
    let v = value_more a (c - 48) k b (omega arith) in
    scan_digits (k + 1) (a * 10 + (c - 48)) n cs v (omega arith) (λ z. omega arith) s.1.1
    ∙ ap (λ (l : List ℕ). l ++ cs) (digits_snoc a c some (value_bound a k b (omega arith)) l g)
    ∙ append_assoc (digits a) (c ∷ []) cs

-- a field that is a number is that of all its bytes
number_scan : (f : List ℕ) (n : ℕ) → number_of f ≡ Some n → scan 0 f ≡ Some n
unfolding number_of
number_scan f n e = go (shaped f) e
  where
    go : (t : Bool) → cond t (scan 0 f) None ≡ Some n → scan 0 f ≡ Some n
    go true e = e
    go false e = absurd (no_value e)

-- rule 1.5: a field that is a number is that number's digits
pub number_spelling : (f : List ℕ) (n : ℕ) → number_of f ≡ Some n → digits n ≡ f
number_spelling [] n e = absurd (no_value (sym (number_none [] refl) ∙ e))
number_spelling (c ∷ cs) n e =
    let s = scan_first 0 n c cs (number_scan (c ∷ cs) n e) in
    let l = s.0 in
    let g = s.1.0 in
    let few : 10 < length (c ∷ cs) → ⊥ = λ h. no_value (sym (number_long (c ∷ cs) h) ∙ e) in
    let lead : 1 < length (c ∷ cs) → c ≡ zero_digit → ⊥ = λ h z. no_value (sym (number_zero (c ∷ cs) h z) ∙ e) in
    let d : 48 + (0 * 10 + (c - 48)) ≡ c = omega arith in
    scan_digits 1 (0 * 10 + (c - 48)) n cs (omega arith) (omega arith) (λ h. omega (arith, lead (omega arith))) s.1.1
    ∙ ap (λ (l : List ℕ). l ++ cs) (digits_small (0 * 10 + (c - 48)) (omega arith) ∙ ap (λ (b : ℕ). b ∷ []) d)

-- fields that are the digits of numbers, and that are read as these behind the numbers ms
pub record Spelled (ms : Numbers) (fs : List (List ℕ)) : Type 0 where
  pub numbers : List ℕ
  pub fields : map digits numbers ≡ fs
  pub read : collect ms fs ≡ more ms numbers

-- rules 1.3, 7.1: fields are the digits of the numbers read, where the count is not 0, which malformed ones have
pub fields_spelling : (ms : Numbers) (fs : List (List ℕ)) → ((collect ms fs).count ≡ 0 → ⊥) → Spelled ms fs
unfolding no_numbers
fields_spelling ms [] h = record { numbers = []; fields = refl; read = collect_end ms ∙ more_none ms }
fields_spelling ms (f ∷ fs) h =
    go (eqb ms.count most_numbers) refl (number_of f) refl (λ v. fields_spelling (with_number ms v) fs)
  where
    none : collect ms (f ∷ fs) ≡ no_numbers → ⊥
    none e = h (ap (λ (ns : Numbers). ns.count) e)

    go :
        (t : Bool) → eqb ms.count most_numbers ≡ t → (x : Option ℕ) → number_of f ≡ x
        → ((v : ℕ) → ((collect (with_number ms v) fs).count ≡ 0 → ⊥) → Spelled (with_number ms v) fs) → Spelled ms (f ∷ fs)
    go true t x e next = absurd (none (collect_full ms f fs (eqb-true _ _ t)))
    go false t None e next = absurd (none (collect_malformed ms f fs (eqb-false _ _ t) e))
    go false t (Some v) e next =
        let m = collect_value ms f fs v (eqb-false _ _ t) e in
        let s = next v (rw m at h) in
        record {
          numbers = v ∷ s.numbers;
          fields = ap₂ (λ (g : List ℕ) (gs : List (List ℕ)). g ∷ gs) (number_spelling f v e) s.fields;
          read = m ∙ s.read ∙ more_one ms v s.numbers;
        }

-- each piece with the byte b in front of it
abbrev pub behind_each : ℕ → List (List ℕ) → List ℕ
behind_each b [] = []
behind_each b (p ∷ ps) = b ∷ (p ++ behind_each b ps)

-- the pieces with the byte b between them
abbrev pub joined : ℕ → List (List ℕ) → List ℕ
joined b ps = drop 1 (behind_each b ps)

-- one byte more in the first piece
behind_push : (b c : ℕ) (ps : List (List ℕ)) → behind_each b (push c ps) ≡ b ∷ (c ∷ joined b ps)
unfolding push
behind_push b c [] = refl
behind_push b c (p ∷ ps) = refl

-- the pieces of a text are the text with the separator in front of it
behind_split : (b : ℕ) (t : List ℕ) → behind_each b (split b t) ≡ b ∷ t
unfolding split
behind_split b [] = refl
behind_split b (c ∷ cs) = go (eqb c b) refl (behind_split b cs)
  where
    go :
        (t : Bool) → eqb c b ≡ t → behind_each b (split b cs) ≡ b ∷ cs
        → behind_each b (cond t ([] ∷ split b cs) (push c (split b cs))) ≡ b ∷ (c ∷ cs)
    go true e h = rw (h, eqb-true c b e)
    go false e h = behind_push b c (split b cs) ∙ ap (λ (l : List ℕ). b ∷ (c ∷ drop 1 l)) h

-- rule 1.2: a text is its pieces with the separator between them
pub joined_split : (b : ℕ) (t : List ℕ) → joined b (split b t) ≡ t
joined_split b t = ap (drop 1) (behind_split b t)

-- fields that are digits, each with its comma
fields_joined : (ns : List ℕ) → behind_each comma (map digits ns) ≡ fields_text ns
unfolding fields_text
fields_joined [] = refl
fields_joined (n ∷ ns) = ap (λ (l : List ℕ). comma ∷ (digits n ++ l)) (fields_joined ns)

-- rule 1.2: a line whose fields behind the first are digits
pub line_fields : (line word ns : List ℕ) → split comma line ≡ word ∷ map digits ns → line ≡ word ++ fields_text ns
line_fields line word ns e =
    sym (joined_split comma line) ∙ ap (joined comma) e ∙ ap (λ (l : List ℕ). word ++ l) (fields_joined ns)

-- a line's numbers, one by one
numbered_each :
    (ns : List ℕ) (k : ℕ) → length ns ≡ k → k ≤ most_numbers → ns ≡ table (λ i. get_or (numbered ns).values i 0) k
numbered_each ns k e few =
    let stored = sets-eq ns (replicate most_numbers 0) 0 (omega arith) in
    table_is _ k 0 ns e (λ i h. sym (ap (λ (l : List ℕ). get_or l i 0) stored ∙ get_or-append ns _ 0 i (omega arith)))

-- rules 1.2, 1.3: a line of k numbers is its word and these numbers
pub line_spelling :
    (line word : List ℕ) (fs : List (List ℕ)) (k : ℕ) → split comma line ≡ word ∷ fs → (numbers_of fs).count ≡ k → 1 ≤ k
    → k ≤ most_numbers → line_text word (table (λ i. get_or (numbers_of fs).values i 0) k) ≡ line ++ (line_feed ∷ [])
unfolding line_text numbers_of no_numbers
line_spelling line word fs k e c some few =
    let s = fields_spelling no_numbers fs (λ z. omega arith) in
    let ns = s.numbers in
    let n : 0 + length ns ≡ k = sym (ap (λ (m : Numbers). m.count) s.read) ∙ c in
    let listed = numbered_each ns k (omega arith) few in
    let whole = line_fields line word ns (e ∙ ap (λ (gs : List (List ℕ)). word ∷ gs) (sym s.fields)) in
    rw (s.read, ← listed, whole) (sym (append_assoc word (fields_text ns) (line_feed ∷ [])))
