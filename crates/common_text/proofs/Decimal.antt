-- A number's decimal digits one by one, how many there are, and the bytes they can be.
-- Assumes nothing.
use mathlib.Core.Bool.{Bool, true, false, cond}
use mathlib.Core.List.{List, [], ◌∷◌, ◌++◌, append_assoc, append-nil}
use mathlib.Core.Path.{◌≡◌, refl, ap, ap₂, sym, ◌∙◌}
use Prim.Native.Nat.{ℕ, zero, suc, ◌+◌, ◌*◌, ◌/◌, ◌%◌, ◌^◌, ◌≤◌, ◌<◌}
use native.Mathlib.Nat.{pow-suc}
use native.Mathlib.Numerals.{add-one}
use native.Mathlib.Omega.{arith}
use lib.Dec.{ltb}
use lib.ListN.{length, get_or, take, drop, length-append, take-append-drop}
use lib.Seq.{take-suc}
use borrow.Author.Tests.{lt-ltb, le-ltb, ltb-true, ltb-false}
use Rattle.common_laws.proofs.TextLists.{member_append, member_one}
use Rattle.common_laws.specs.Lists.{member}
use Rattle.common_text.specs.Digits.{digits_in, digits, fields_text, line_text}
use Rattle.common_text.specs.Fields.{comma}
use Rattle.common_text.specs.Code.Scanning.{two_digits, four_digits}

pub digits_in_small : (k n : ℕ) → n < 10 → digits_in (suc k) n ≡ (48 + n) ∷ []
unfolding digits_in
digits_in_small k n h = simp (lt-ltb n 10 h)

pub digits_in_large : (k n : ℕ) → 10 ≤ n → digits_in (suc k) n ≡ digits_in k (n / 10) ++ ((48 + n % 10) ∷ [])
unfolding digits_in
digits_in_large k n h = simp (le-ltb n 10 h)

-- more places than digits change nothing
digits_in_room : (k n : ℕ) → n < 10 ^ (suc k) → digits_in (suc k) n ≡ digits_in (suc (suc k)) n
unfolding digits_in
digits_in_room zero n h = simp (lt-ltb n 10 h)
digits_in_room (suc k) n h =
    let g : n / 10 < 10 ^ (suc k) = omega (arith, pow-suc 10 (suc k)) in
    ap (λ (l : List ℕ). cond (ltb n 10) ((48 + n) ∷ []) (l ++ ((48 + n % 10) ∷ []))) (digits_in_room k (n / 10) g)

pub digits_small : (n : ℕ) → n < 10 → digits n ≡ (48 + n) ∷ []
unfolding digits
digits_small n h = digits_in_small 19 n h

pub digits_large : (n : ℕ) → 10 ≤ n → n < 10 ^ 20 → digits n ≡ digits (n / 10) ++ ((48 + n % 10) ∷ [])
unfolding digits
digits_large n h g =
    digits_in_large 19 n h
    ∙ ap (λ (l : List ℕ). l ++ ((48 + n % 10) ∷ [])) (digits_in_room 18 (n / 10) (omega arith))

-- two digits
pub digits_two : (n : ℕ) → 10 ≤ n → n < 100 → digits n ≡ two_digits n
unfolding two_digits
digits_two n h g =
    digits_large n h (omega arith)
    ∙ ap (λ (l : List ℕ). l ++ ((48 + n % 10) ∷ [])) (digits_small (n / 10) (omega arith))

-- the last two digits behind the others
pub digits_last_two : (n : ℕ) → 100 ≤ n → n < 10 ^ 20 → digits n ≡ digits (n / 100) ++ two_digits (n % 100)
unfolding two_digits
digits_last_two n h g =
    let tens : n / 10 % 10 ≡ n % 100 / 10 = omega arith in
    let ones : n % 10 ≡ n % 100 % 10 = omega arith in
    let rest : n / 10 / 10 ≡ n / 100 = omega arith in
    digits_large n (omega arith) g
    ∙ ap (λ (l : List ℕ). l ++ ((48 + n % 10) ∷ [])) (digits_large (n / 10) (omega arith) (omega arith))
    ∙ append_assoc (digits (n / 10 / 10)) ((48 + n / 10 % 10) ∷ []) ((48 + n % 10) ∷ [])
    ∙ ap (λ (k : ℕ). digits k ++ ((48 + n / 10 % 10) ∷ (48 + n % 10) ∷ [])) rest
    ∙ ap₂ (λ (t o : ℕ). digits (n / 100) ++ ((48 + t) ∷ (48 + o) ∷ [])) tens ones

-- the last four digits behind the others
pub digits_last_four : (n : ℕ) → 10000 ≤ n → n < 10 ^ 20 → digits n ≡ digits (n / 10000) ++ four_digits (n % 10000)
unfolding four_digits
digits_last_four n h g =
    let upper : n / 100 % 100 ≡ n % 10000 / 100 = omega arith in
    let lower : n % 100 ≡ n % 10000 % 100 = omega arith in
    let rest : n / 100 / 100 ≡ n / 10000 = omega arith in
    digits_last_two n (omega arith) g
    ∙ ap (λ (l : List ℕ). l ++ two_digits (n % 100)) (digits_last_two (n / 100) (omega arith) (omega arith))
    ∙ append_assoc (digits (n / 100 / 100)) (two_digits (n / 100 % 100)) (two_digits (n % 100))
    ∙ ap (λ (k : ℕ). digits k ++ (two_digits (n / 100 % 100) ++ two_digits (n % 100))) rest
    ∙ ap₂ (λ (u l : ℕ). digits (n / 10000) ++ (two_digits u ++ two_digits l)) upper lower

-- how many digits there are
pub digits_small_length : (n : ℕ) → n < 10 → length (digits n) ≡ 1
digits_small_length n h = ap length (digits_small n h)

pub digits_large_length : (n : ℕ) → 10 ≤ n → n < 10 ^ 20 → length (digits n) ≡ length (digits (n / 10)) + 1
digits_large_length n h g = ap length (digits_large n h g) ∙ length-append (digits (n / 10)) ((48 + n % 10) ∷ [])

pub digits_last_two_length : (n : ℕ) → 100 ≤ n → n < 10 ^ 20 → length (digits n) ≡ length (digits (n / 100)) + 2
unfolding two_digits
digits_last_two_length n h g =
    ap length (digits_last_two n h g) ∙ length-append (digits (n / 100)) (two_digits (n % 100))

pub digits_last_four_length :
    (n : ℕ) → 10000 ≤ n → n < 10 ^ 20 → length (digits n) ≡ length (digits (n / 10000)) + 4
unfolding two_digits four_digits
digits_last_four_length n h g =
    ap length (digits_last_four n h g) ∙ length-append (digits (n / 10000)) (four_digits (n % 10000))

-- the digits of n, by the greatest power of ten that n reaches
pub digits_power_length :
    (k n : ℕ) → 10 ^ k ≤ n → n < 10 * 10 ^ k → n < 10 ^ 20 → length (digits n) ≡ k + 1
digits_power_length zero n h g b = digits_small_length n g
digits_power_length (suc k) n h g b =
    let p = pow-suc 10 k in
    omega (arith, digits_large_length n (omega arith) b, digits_power_length k (n / 10) (omega arith) (omega arith) (omega arith))

pub digits_in_most : (k j n : ℕ) → n < 10 ^ (suc j) → length (digits_in k n) ≤ suc j
unfolding digits_in
digits_in_most zero j n h = omega arith
digits_in_most (suc k) j n h = go (ltb n 10) refl j h (digits_in_most k)
  where
    go :
        (t : Bool) → ltb n 10 ≡ t → (i : ℕ) → n < 10 ^ (suc i)
        → ((i m : ℕ) → m < 10 ^ (suc i) → length (digits_in k m) ≤ suc i) → length (digits_in (suc k) n) ≤ suc i
    go true e i h more = rw (digits_in_small k n (ltb-true n 10 e)) (omega arith)
    go false e zero h more = absurd (omega (arith, ltb-false n 10 e))
    go false e (suc i) h more =
        rw (digits_in_large k n (ltb-false n 10 e))
        (omega (
          arith,
          length-append (digits_in k (n / 10)) ((48 + n % 10) ∷ []),
          more i (n / 10) (omega (arith, pow-suc 10 (suc i))),
        ))

pub digits_most : (k n : ℕ) → n < 10 ^ (suc k) → length (digits n) ≤ suc k
unfolding digits
digits_most k n h = digits_in_most 20 k n h

pub digits_short : (n : ℕ) → n < 10 ^ 10 → length (digits n) ≤ 10
digits_short n h = digits_most 9 n h

digits_in_long : (k n : ℕ) → length (digits_in k n) ≤ k
unfolding digits_in
digits_in_long zero n = omega arith
digits_in_long (suc k) n = go (ltb n 10) (digits_in_long k (n / 10))
  where
    go :
        (t : Bool) → length (digits_in k (n / 10)) ≤ k
        → length (cond t ((48 + n) ∷ []) (digits_in k (n / 10) ++ ((48 + n % 10) ∷ []))) ≤ suc k
    go true h = omega arith
    go false h = omega (arith, length-append (digits_in k (n / 10)) ((48 + n % 10) ∷ []))

-- whatever n is: the definition writes no more
pub digits_long : (n : ℕ) → length (digits n) ≤ 20
unfolding digits
digits_long n = digits_in_long 20 n

-- a byte below "0" is no digit: neither the comma nor the line feed is one
member_digits_in : (b k n : ℕ) → b < 48 → member b (digits_in k n) ≡ false
unfolding digits_in member
member_digits_in b zero n h = refl
member_digits_in b (suc k) n h = go (ltb n 10) (member_digits_in b k (n / 10) h)
  where
    go :
        (t : Bool) → member b (digits_in k (n / 10)) ≡ false
        → member b (cond t ((48 + n) ∷ []) (digits_in k (n / 10) ++ ((48 + n % 10) ∷ []))) ≡ false
    go true e = member_one b (48 + n) (λ q. omega arith)
    go false e =
        member_append b (digits_in k (n / 10)) ((48 + n % 10) ∷ []) e (member_one b (48 + n % 10) (λ q. omega arith))

pub member_digits : (b n : ℕ) → b < 48 → member b (digits n) ≡ false
unfolding digits
member_digits b n h = member_digits_in b 20 n h

-- fields behind fields
pub fields_append : (ms ns : List ℕ) → fields_text (ms ++ ns) ≡ fields_text ms ++ fields_text ns
unfolding fields_text
fields_append [] ns = refl
fields_append (m ∷ ms) ns =
    ap (λ (l : List ℕ). comma ∷ l)
    (ap (λ (l : List ℕ). digits m ++ l) (fields_append ms ns)
    ∙ sym (append_assoc (digits m) (fields_text ms) (fields_text ns)))

pub fields_one : (n : ℕ) → fields_text (n ∷ []) ≡ comma ∷ digits n
unfolding fields_text
fields_one n = ap (λ (l : List ℕ). comma ∷ l) (append-nil (digits n))

pub fields_more :
    (ns : List ℕ) (i : ℕ) → i < length ns
    → fields_text (take (i + 1) ns) ≡ fields_text (take i ns) ++ (comma ∷ digits (get_or ns i 0))
fields_more ns i h =
    rw (add-one, take-suc ns i 0)
    (fields_append (take i ns) (get_or ns i 0 ∷ [])
    ∙ ap (λ (l : List ℕ). fields_text (take i ns) ++ l) (fields_one (get_or ns i 0)))

pub fields_part : (ns : List ℕ) (i : ℕ) → length (fields_text (take i ns)) ≤ length (fields_text ns)
fields_part ns i =
    omega (
      arith,
      ap (λ (l : List ℕ). length (fields_text l)) (take-append-drop i ns),
      ap length (fields_append (take i ns) (drop i ns)),
      length-append (fields_text (take i ns)) (fields_text (drop i ns)),
    )

-- the same, of the lengths
pub fields_more_length :
    (ns : List ℕ) (i : ℕ) → i < length ns
    → length (fields_text (take (i + 1) ns)) ≡ length (fields_text (take i ns)) + (1 + length (digits (get_or ns i 0)))
fields_more_length ns i h =
    ap length (fields_more ns i h)
    ∙ length-append (fields_text (take i ns)) (comma ∷ digits (get_or ns i 0))
    ∙ omega arith

-- the room that a text of fields leaves for one more of them
pub fields_room_lem :
    (ns : List ℕ) (i : ℕ) → i < length ns
    → length (fields_text (take i ns)) + (1 + length (digits (get_or ns i 0))) ≤ length (fields_text ns)
fields_room_lem ns i h = omega (arith, fields_part ns (i + 1), fields_more_length ns i h)

-- at most 21 bytes to a field
pub fields_long : (ns : List ℕ) → length (fields_text ns) ≤ 21 * length ns
unfolding fields_text
fields_long [] = omega arith
fields_long (n ∷ ns) = omega (arith, length-append (digits n) (fields_text ns), digits_long n, fields_long ns)

-- the length of a line, from its parts
pub line_length : (word ns : List ℕ) → length (line_text word ns) ≡ length word + (length (fields_text ns) + 1)
unfolding line_text
line_length word ns = simp length-append
