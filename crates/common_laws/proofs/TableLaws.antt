-- Laws of tables, of tests, also over the numbers below n, and of a mask as a sum of powers of two.
-- Assumes nothing.
use mathlib.Core.Path.{◌≡◌, refl, sym, ap, ◌∙◌}
use mathlib.Core.Bool.{Bool, true, false, cond, false≢true, true≢false}
use mathlib.Core.List.{List, [], ◌∷◌}
use Prim.Native.Nat.{ℕ, zero, suc, ◌+◌, ◌-◌, ◌*◌, ◌^◌, ◌≤◌, ◌<◌}
use native.Mathlib.Nat.{zero-add, add-zero, pow-suc, add-mul-div_right, add-mul-mod_self_right}
use native.Mathlib.Numerals.{add-one}
use native.Mathlib.Decide.{ℕ_discrete}
use native.Mathlib.Omega.{arith}
use lib.Dec.{ltb, eqb}
use lib.ListN.{length, get_or, replicate, length-append, get_or-append, get_or-eq_default}
use lib.Seq.{get_or_at}
use borrow.Author.Tests.{ltb-true, ltb-false, eqb-true}
use lib.Pow.{pow_pos, pow-add, high}
use Rattle.common_laws.specs.Bits.{bit}
use Rattle.common_laws.specs.Lists.{member, gather, table, sum, every, some, first_from, first}
use Rattle.common_laws.proofs.BitLaws.{bit_above}
use Rattle.common_laws.proofs.Tests.{both, neither}

-- i is below n + 1: below n, or n itself
pub below_suc : {P : ℕ → Type 0} (n : ℕ) → ((i : ℕ) → i < n → P i) → P n → (i : ℕ) → i < suc n → P i
below_suc {P} n f p i h = go (ℕ_discrete i n)
  where
    go : Dec (i ≡ n) → P i
    go (yes e) = rw e p
    go (no e) = f i (omega arith)

module _ {X : Type 0} (f : ℕ → X) where
  pub length_table : (n : ℕ) → length (table f n) ≡ n
  unfolding table gather
  length_table zero = refl
  length_table (suc n) = rw (length-append, length_table n) (add-one n)

  pub get_or_table : (n : ℕ) (d : X) (i : ℕ) → i < n → get_or (table f n) i d ≡ f i
  unfolding table gather
  get_or_table zero d i h = absurd (omega arith)
  get_or_table (suc n) d i h =
      below_suc n
      (λ j l. get_or-append (table f n) (f n ∷ []) d j (rw (length_table n) l) ∙ get_or_table n d j l)
      (get_or_at (table f n) (f n) [] d n (length_table n))
      i h

  pub get_or_table_past : (n : ℕ) (d : X) (i : ℕ) → n ≤ i → get_or (table f n) i d ≡ d
  get_or_table_past n d i h = get_or-eq_default (table f n) d (rw (length_table n) h)

-- at every index of n times a, and at every index behind them
pub get_or_replicate_all : {X : Type 0} (n i : ℕ) (a : X) → get_or (replicate n a) i a ≡ a
get_or_replicate_all zero i a = refl
get_or_replicate_all (suc n) zero a = refl
get_or_replicate_all (suc n) (suc i) a = get_or_replicate_all n i a

-- what is true of each number of a list is true of its members
abbrev pub Each : (ℕ → Type 0) → List ℕ → Type 0
Each P [] = Unit {0}
Each P (y ∷ ys) = P y × Each P ys

pub member_each : (P : ℕ → Type 0) (x : ℕ) (ys : List ℕ) → Each P ys → member x ys ≡ true → P x
unfolding member
member_each P x [] f e = absurd (false≢true e)
member_each P x (y ∷ ys) f e = go (eqb y x) refl (member_each P x ys f.1)
  where
    go : (c : Bool) → eqb y x ≡ c → (member x ys ≡ true → P x) → P x
    go true q r = rw (eqb-true y x q) at f.0
    go false q r = r (rw (q, member) at e)

module _ (test : ℕ → Bool) where
  pub every_at : (n : ℕ) → every test n ≡ true → (i : ℕ) → i < n → test i ≡ true
  unfolding every
  every_at zero e i h = absurd (omega arith)
  every_at (suc n) e i h =
      let p = both (every test n) (test n) e in
      below_suc n (every_at n p.0) p.1 i h

  pub every_all : (n : ℕ) → ((i : ℕ) → i < n → test i ≡ true) → every test n ≡ true
  unfolding every
  every_all zero f = refl
  every_all (suc n) f = rw (every_all n (λ i h. f i (omega arith))) (f n (omega arith))

  pub some_at : (n : ℕ) → some test n ≡ true → (i : ℕ) × (i < n) × (test i ≡ true)
  unfolding some
  some_at zero e = absurd (false≢true e)
  some_at (suc n) e = go (some test n) refl (some_at n)
    where
      go : (c : Bool) → some test n ≡ c → (some test n ≡ true → (i : ℕ) × (i < n) × (test i ≡ true))
          → (i : ℕ) × (i < suc n) × (test i ≡ true)
      go true q f = let r = f q in (r.0, omega arith, r.2)
      go false q f = (n, omega arith, rw q at e)

  pub none_at : (n : ℕ) → some test n ≡ false → (i : ℕ) → i < n → test i ≡ false
  unfolding some
  none_at zero e i h = absurd (omega arith)
  none_at (suc n) e i h =
      let p = neither (some test n) (test n) e in
      below_suc n (none_at n p.0) p.1 i h

  pub none_all : (n : ℕ) → ((i : ℕ) → i < n → test i ≡ false) → some test n ≡ false
  unfolding some
  none_all zero f = refl
  none_all (suc n) f = rw (none_all n (λ i h. f i (omega arith))) (f n (omega arith))

  pub some_here : (n i : ℕ) → i < n → test i ≡ true → some test n ≡ true
  some_here n i h e = go (some test n) refl
    where
      go : (c : Bool) → some test n ≡ c → some test n ≡ true
      go true q = q
      go false q = absurd (true≢false (sym e ∙ none_at n q i h))

-- r is the first number below n that passes the test, or n
pub record First (test : ℕ → Bool) (n r : ℕ) : Type 0 where
  pub within : r ≤ n
  pub found : r < n → test r ≡ true
  pub before : (j : ℕ) → j < r → test j ≡ false

module _ (test : ℕ → Bool) (n : ℕ) where
  from_first : (k i : ℕ) → i + k ≡ n → ((j : ℕ) → j < i → test j ≡ false) → First test n (first_from test i k)
  unfolding first_from
  from_first zero i e f = record { within = omega arith; found = λ h. absurd (omega arith); before = f }
  from_first (suc k) i e f = go (test i) refl (from_first k (i + 1) (omega arith))
    where
      go : (c : Bool) → test i ≡ c → (((j : ℕ) → j < i + 1 → test j ≡ false) → First test n (first_from test (i + 1) k))
          → First test n (cond c i (first_from test (i + 1) k))
      go true q r = record { within = omega arith; found = λ h. q; before = f }
      go false q r = r (rw add-one (below_suc i f q))

  pub first_is : First test n (first test n)
  unfolding first
  first_is = from_first n 0 (zero-add n) (λ j h. absurd (omega arith))

  -- the only number that passes is the first
  pub first_only : (r : ℕ) → r < n → test r ≡ true → ((j : ℕ) → j < n → test j ≡ true → j ≡ r) → first test n ≡ r
  first_only r h e f = go (ltb r (first test n)) refl
    where
      go : (c : Bool) → ltb r (first test n) ≡ c → first test n ≡ r
      go true q = absurd (true≢false (sym e ∙ first_is.before r (ltb-true _ _ q)))
      go false q =
          let l : first test n < n = omega (arith, ltb-false r (first test n) q) in
          f (first test n) l (first_is.found l)

-- the first number from i on that passes, of those below n: i itself, one further on, or none
module _ (test : ℕ → Bool) (n i : ℕ) where
  one_more : i < n → n - i ≡ suc (n - (i + 1))
  one_more h = omega arith

  pub first_here : i < n → test i ≡ true → first_from test i (n - i) ≡ i
  unfolding first_from
  first_here h e = rw (one_more h, e)

  pub first_later : i < n → test i ≡ false → first_from test i (n - i) ≡ first_from test (i + 1) (n - (i + 1))
  unfolding first_from
  first_later h e = rw (one_more h, e)

  pub first_none : n ≤ i → first_from test i (n - i) ≡ i
  unfolding first_from
  first_none h = let z : n - i ≡ 0 = omega arith in rw z

-- a power of two added to a smaller number is its bit there, and leaves the bits below
bit_added : (x n : ℕ) → x < 2 ^ n → (c : Bool) → bit (x + cond c (2 ^ n) 0) n ≡ c
unfolding bit
bit_added x n h true =
    let e : x + 2 ^ n ≡ 1 * 2 ^ n + x = omega arith in
    rw (e, high 1 n h)
bit_added x n h false = bit_above n (x + 0) n (rw add-zero h) (omega arith)

bit_below : (x m k : ℕ) → bit (x + 2 ^ (suc k + m)) m ≡ bit x m
unfolding bit
bit_below x m k =
    rw (pow-add 2 (suc k) m, add-mul-div_right x (2 ^ suc k) (pow_pos m), pow-suc 2 k, add-mul-mod_self_right)

-- the sum of the powers of two at the numbers that pass the test
abbrev pub mask : (ℕ → Bool) → ℕ → ℕ
mask test n = sum (λ m. cond (test m) (2 ^ m) 0) n

module _ (test : ℕ → Bool) where
  pub mask_lt : (n : ℕ) → mask test n < 2 ^ n
  unfolding sum
  mask_lt zero = omega arith
  mask_lt (suc n) = go (test n) (mask_lt n)
    where
      go : (c : Bool) → mask test n < 2 ^ n → mask test n + cond c (2 ^ n) 0 < 2 ^ suc n
      go true h = omega arith
      go false h = omega arith

  -- its bits are the test
  pub bit_mask : (n m : ℕ) → m < n → bit (mask test n) m ≡ test m
  unfolding sum
  bit_mask zero m h = absurd (omega arith)
  bit_mask (suc n) m h =
      below_suc n
      (λ i l. go i l (test n) ∙ bit_mask n i l)
      (bit_added (mask test n) n (mask_lt n) (test n))
      m h
    where
      go : (i : ℕ) → i < n → (c : Bool) → bit (mask test n + cond c (2 ^ n) 0) i ≡ bit (mask test n) i
      go i l true =
          let e : n ≡ suc (n - suc i) + i = omega arith in
          ap (λ (k : ℕ). bit (mask test n + 2 ^ k) i) e ∙ bit_below (mask test n) i (n - suc i)
      go i l false = rw (add-zero (mask test n))

  pub bit_mask_past : (n m : ℕ) → n ≤ m → bit (mask test n) m ≡ false
  bit_mask_past n m h = bit_above n (mask test n) m (mask_lt n) h
