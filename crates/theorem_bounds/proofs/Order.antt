-- The masters in cyclic order (rule 4.5): the first requester upward from an owner, and the sum of what the masters strictly
-- between two of them cost. A requester m is found, or another before it, and then what lies between that one and m is less.
-- Assumes nothing.
use mathlib.Core.Path.{◌≡◌, refl, sym, ap, ◌∙◌}
use mathlib.Core.Bool.{Bool, true, false, cond, false≢true}
use mathlib.Core.Logic.{◌⊎◌, inl, inr, ⊎_elim, ◌≢◌}
use Prim.Native.Nat.{ℕ, zero, suc, ◌+◌, ◌-◌, ◌≤◌, ◌<◌}
use native.Mathlib.Nat.{add-zero, add-suc}
use native.Mathlib.Numerals.{add-one}
use native.Mathlib.Decide.{ℕ_discrete}
use native.Mathlib.Omega.{arith}
use Rattle.std.specs.Prelude.{Option, Some, None}
use lib.Dec.{ltb, eqb}
use borrow.Author.Tests.{ltb-true, ltb-false, eq-eqb, ne_eqb}
use Rattle.common_laws.specs.Lists.{sum}
use Rattle.fabric_arbiter.specs.Choosing.{next_master, tried, first_requester}
use Rattle.fabric_arbiter.proofs.OrderLaws.{above_lt}
use Rattle.fabric_arbiter.proofs.ChoiceLaws.{tried_none, tried_found, tried_on}

-- the cost of the masters strictly between o and m, going up from o
unfoldable pub between : (ℕ → ℕ) → ℕ → ℕ → ℕ → ℕ
between cost n o m = cond (ltb o m) (sum cost m - sum cost (suc o)) ((sum cost n + sum cost m) - sum cost (suc o))

-- ---- sums

sum_zero : (cost : ℕ → ℕ) → sum cost 0 ≡ 0
unfolding sum
sum_zero cost = refl

sum_suc : (cost : ℕ → ℕ) (n : ℕ) → sum cost (suc n) ≡ sum cost n + cost n
unfolding sum
sum_suc cost n = refl

sum_more : (cost : ℕ → ℕ) (d a : ℕ) → sum cost a ≤ sum cost (a + d)
sum_more cost zero a = rw add-zero (omega arith)
sum_more cost (suc d) a = rw (add-suc, sum_suc) (omega (arith, sum_more cost d a))

sum_monotone : (cost : ℕ → ℕ) (a b : ℕ) → a ≤ b → sum cost a ≤ sum cost b
sum_monotone cost a b h =
    let e : a + (b - a) ≡ b = omega arith in
    rw e at (sum_more cost (b - a) a)

-- the sum of all but m
except_below : (cost : ℕ → ℕ) (m n : ℕ) → n ≤ m → sum (λ j. cond (eqb j m) 0 (cost j)) n ≡ sum cost n
unfolding sum
except_below cost m zero h = refl
except_below cost m (suc n) h = rw (except_below cost m n (omega arith), ne_eqb n m (λ q. omega arith))

pub sum_except : (cost : ℕ → ℕ) (m n : ℕ) → m < n → sum (λ j. cond (eqb j m) 0 (cost j)) n + cost m ≡ sum cost n
unfolding sum
sum_except cost m zero h = omega arith
sum_except cost m (suc n) h = go (ℕ_discrete n m) (sum_except cost m n)
  where
    go : Dec (n ≡ m) → (m < n → sum (λ j. cond (eqb j m) 0 (cost j)) n + cost m ≡ sum cost n)
        → sum (λ j. cond (eqb j m) 0 (cost j)) n + cond (eqb n m) 0 (cost n) + cost m ≡ sum cost n + cost n
    go (yes q) f = rw (eq-eqb n m q, except_below cost m n (omega arith)) (omega (arith, ap cost q))
    go (no q) f = rw (ne_eqb n m q) (omega (arith, f (omega arith)))

-- ---- the next master

next_cases : (n o : ℕ) → ((suc o < n) × (next_master n o ≡ suc o)) ⊎ ((n ≤ suc o) × (next_master n o ≡ 0))
unfolding next_master
next_cases n o = go (ltb (o + 1) n) refl
  where
    go : (b : Bool) → ltb (o + 1) n ≡ b → ((suc o < n) × (cond b (o + 1) 0 ≡ suc o)) ⊎ ((n ≤ suc o) × (cond b (o + 1) 0 ≡ 0))
    go true e = inl (omega (arith, ltb-true (o + 1) n e), add-one o)
    go false e = inr (omega (arith, ltb-false (o + 1) n e), refl)

-- ---- what lies between

-- `between` without a difference: m is above o, or the way up from o goes past the highest master
abbrev Sums : (ℕ → ℕ) → ℕ → ℕ → ℕ → Type 0
Sums cost n o m =
    ((o < m) × (between cost n o m + sum cost (suc o) ≡ sum cost m))
    ⊎ ((m ≤ o) × (between cost n o m + sum cost (suc o) ≡ sum cost n + sum cost m))

between_cases : (cost : ℕ → ℕ) (n o m : ℕ) → o < n → Sums cost n o m
unfolding between
between_cases cost n o m h = go (ltb o m) refl
  where
    go : (b : Bool) → ltb o m ≡ b
        → let x = cond b (sum cost m - sum cost (suc o)) ((sum cost n + sum cost m) - sum cost (suc o)) in
        ((o < m) × (x + sum cost (suc o) ≡ sum cost m)) ⊎ ((m ≤ o) × (x + sum cost (suc o) ≡ sum cost n + sum cost m))
    go true e = let l = ltb-true o m e in inl (l, omega (arith, sum_monotone cost (suc o) m l))
    go false e = inr (ltb-false o m e, omega (arith, sum_monotone cost (suc o) n h))

module _ (cost : ℕ → ℕ) (n o m : ℕ) (ho : o < n) (hm : m < n) where
  -- nothing lies between a master and the next one
  between_next : next_master n o ≡ m → between cost n o m ≡ 0
  between_next e =
      ⊎_elim
      (λ a. ⊎_elim (λ b. omega (arith, ap (sum cost) (sym a.1 ∙ e))) (λ b. omega arith) (between_cases cost n o m ho))
      (λ a. ⊎_elim (λ b. omega arith) (λ b. round (omega arith) (omega arith) b) (between_cases cost n o m ho))
      (next_cases n o)
    where
      round : suc o ≡ n → m ≡ 0 → (m ≤ o) × (between cost n o m + sum cost (suc o) ≡ sum cost n + sum cost m)
          → between cost n o m ≡ 0
      round p q b = omega (arith, ap (sum cost) p, ap (sum cost) q, sum_zero cost)

  step_up : suc o < n → suc o ≢ m → between cost n o m ≡ cost (suc o) + between cost n (suc o) m
  step_up h e =
      ⊎_elim
      (λ a. ⊎_elim (λ b. omega (arith, sum_suc cost (suc o))) (λ b. omega arith) (between_cases cost n (suc o) m h))
      (λ a. ⊎_elim (λ b. omega arith) (λ b. omega (arith, sum_suc cost (suc o))) (between_cases cost n (suc o) m h))
      (between_cases cost n o m ho)

  step_round : suc o ≡ n → 0 ≢ m → between cost n o m ≡ cost 0 + between cost n 0 m
  step_round h e =
      ⊎_elim
      (λ a. omega arith)
      (λ a.
      ⊎_elim (λ b. omega (arith, ap (sum cost) h, sum_suc cost 0, sum_zero cost)) (λ b. omega arith)
      (between_cases cost n 0 m (omega arith)))
      (between_cases cost n o m ho)

  -- or the next one does, and what lies between that one and m
  between_step : next_master n o ≢ m → between cost n o m ≡ cost (next_master n o) + between cost n (next_master n o) m
  between_step e =
      ⊎_elim
      (λ a. rw a.1 (step_up a.0 (λ q. e (a.1 ∙ q))))
      (λ a. rw a.1 (step_round (omega arith) (λ q. e (a.1 ∙ q))))
      (next_cases n o)

-- between a master and itself lie all the others
pub between_all : (cost : ℕ → ℕ) (n m : ℕ) → m < n → between cost n m m + cost m ≡ sum cost n
between_all cost n m h = ⊎_elim (λ a. omega arith) (λ a. omega (arith, sum_suc cost m)) (between_cases cost n m m h)

-- and an owner with what lies between it and m is at most that
pub between_owner : (cost : ℕ → ℕ) (n o m : ℕ) → o < n → m < n → o ≢ m → cost o + between cost n o m ≤ between cost n m m
between_owner cost n o m ho hm e =
    ⊎_elim
    (λ a. omega (arith, between_all cost n m hm, sum_suc cost o, sum_suc cost m, sum_monotone cost (suc m) n hm))
    (λ a. omega (arith, between_all cost n m hm, sum_suc cost o, sum_suc cost m, sum_monotone cost (suc m) o (omega arith)))
    (between_cases cost n o m ho)

-- ---- the first requester

-- a master that does not request is passed over
tried_next : (requests : ℕ → Bool) (n k o : ℕ) → requests (next_master n o) ≡ false
    → tried requests n (next_master n o) (suc k) ≡ tried requests n (next_master n (next_master n o)) k
tried_next requests n k o e =
    let z : suc k - 1 ≡ k = omega arith in
    rw z at (tried_on requests n (next_master n o) (suc k) (λ i. omega arith) e)

-- m is one of the k masters upward from o
abbrev Within : ℕ → ℕ → ℕ → ℕ → Type 0
Within n k o m = ((o < m) × (m ≤ o + k)) ⊎ ((m ≤ o) × (m + n ≤ o + k))

within_zero : (n o m : ℕ) → o < n → Within n 0 o m → ⊥
within_zero n o m h = ⊎_elim (λ a. omega arith) (λ a. omega arith)

within_all : (n o m : ℕ) → m < n → Within n n o m
within_all n o m h = go (ltb o m) refl
  where
    go : (b : Bool) → ltb o m ≡ b → Within n n o m
    go true e = inl (ltb-true o m e, omega arith)
    go false e = let l = ltb-false o m e in inr (l, omega arith)

within_step : (n k o m : ℕ) → o < n → m < n → next_master n o ≢ m → Within n (suc k) o m → Within n k (next_master n o) m
within_step n k o m ho hm e w =
    ⊎_elim
    (λ a. rw a.1 (⊎_elim (λ b. low (λ q. e (a.1 ∙ q)) b) (λ b. inr (omega arith, omega arith)) w))
    (λ a.
    rw a.1 (⊎_elim (λ b. inr (omega arith, omega arith)) (λ b. round (λ q. e (a.1 ∙ q)) (omega arith) b) w))
    (next_cases n o)
  where
    low : suc o ≢ m → (o < m) × (m ≤ o + suc k) → Within n k (suc o) m
    low d b = inl (omega arith, omega arith)

    round : 0 ≢ m → suc o ≡ n → (m ≤ o) × (m + n ≤ o + suc k) → Within n k 0 m
    round d p b = inl (omega arith, omega arith)

-- j is passed on the way up from o to m
abbrev pub Passed : ℕ → ℕ → ℕ → Type 0
Passed o m j = ((o < m) × (o < j) × (j < m)) ⊎ ((m ≤ o) × ((o < j) ⊎ (j < m)))

-- the next master is, unless it is m; and so is who is passed on the way up from the next one
passed_next : (n o m : ℕ) → o < n → m < n → next_master n o ≢ m → Passed o m (next_master n o)
passed_next n o m ho hm e =
    ⊎_elim
    (λ a. rw a.1 (low (λ q. e (a.1 ∙ q)) (ltb o m) refl))
    (λ a. rw a.1 (round (λ q. e (a.1 ∙ q)) (omega arith)))
    (next_cases n o)
  where
    low : suc o ≢ m → (c : Bool) → ltb o m ≡ c → Passed o m (suc o)
    low d true q = let l = ltb-true o m q in inl (l, omega arith, omega arith)
    low d false q = inr (ltb-false o m q, inl (omega arith))

    round : 0 ≢ m → m ≤ o → Passed o m 0
    round d l = inr (l, inr (omega arith))

passed_on : (n o m j : ℕ) → o < n → m < n → next_master n o ≢ m → Passed (next_master n o) m j → Passed o m j
passed_on n o m j ho hm e p =
    ⊎_elim
    (λ a. low (λ q. e (a.1 ∙ q)) (rw a.1 at p))
    (λ a. round (λ q. e (a.1 ∙ q)) (omega arith) (rw a.1 at p))
    (next_cases n o)
  where
    low : suc o ≢ m → Passed (suc o) m j → Passed o m j
    low d =
        ⊎_elim (λ a. inl (omega arith, omega arith, omega arith))
        (λ a. inr (omega arith, ⊎_elim (λ b. inl (omega arith)) (λ b. inr b) a.1))

    round : 0 ≢ m → m ≤ o → Passed 0 m j → Passed o m j
    round d l = ⊎_elim (λ a. inr (l, inr (omega arith))) (λ a. absurd (omega arith))

-- nobody is passed on the way up from itself
pub passed_self : (o m : ℕ) → Passed o m o → ⊥
passed_self o m = ⊎_elim (λ a. omega arith) (λ a. ⊎_elim (λ h. omega arith) (λ h. omega arith) a.1)

-- who is passed behind one that is passed
pub passed_behind : (o m i j : ℕ) → Passed o m i → Passed i m j → Passed o m j
passed_behind o m i j =
    ⊎_elim
    (λ a. ⊎_elim (λ b. inl (omega arith, omega arith, omega arith)) (λ b. absurd (omega arith)))
    (λ a.
    ⊎_elim (λ h. ⊎_elim (λ b. inr (a.0, inr (omega arith))) (λ b. inr (a.0, ⊎_elim (λ l. inl (omega arith)) (λ l. inr l) b.1)))
    (λ h. ⊎_elim (λ b. inr (a.0, inr b.2)) (λ b. absurd (omega arith))) a.1)

-- The first requester upward from o, where m requests: m itself, or another before it. `skipped` is what the masters passed over
-- cost.
pub record Found (requests : ℕ → Bool) (cost : ℕ → ℕ) (n o m : ℕ) (x : Option ℕ) : Type 0 where
  pub master : ℕ
  pub is : x ≡ Some master
  pub asks : requests master ≡ true
  pub low : master < n
  pub skipped : ℕ
  pub none : ((j : ℕ) → j < n → Passed o m j → requests j ≡ false → cost j ≡ 0) → skipped ≡ 0
  pub passed : master ≢ m → Passed o m master
  pub before : ((master ≡ m) × (between cost n o m ≡ skipped))
      ⊎ ((master ≢ m) × (skipped + cost master + between cost n master m ≡ between cost n o m))

module _ (requests : ℕ → Bool) (cost : ℕ → ℕ) (n m : ℕ) (hm : m < n) (asked : requests m ≡ true) where
  here : (k o : ℕ) → o < n → requests (next_master n o) ≡ true
      → Found requests cost n o m (tried requests n (next_master n o) (suc k))
  here k o ho e =
      record {
        master = next_master n o;
        is = tried_found requests n (next_master n o) (suc k) (λ z. omega arith) e;
        asks = e;
        low = above_lt n o (omega arith);
        skipped = 0;
        none = λ f. refl;
        passed = λ q. passed_next n o m ho hm q;
        before = go (ℕ_discrete (next_master n o) m);
      }
    where
      go : Dec (next_master n o ≡ m)
          → ((next_master n o ≡ m) × (between cost n o m ≡ 0))
          ⊎ ((next_master n o ≢ m) × (0 + cost (next_master n o) + between cost n (next_master n o) m ≡ between cost n o m))
      go (yes q) = inl (q, between_next cost n o m ho hm q)
      go (no q) = inr (q, omega (arith, between_step cost n o m ho hm q))

  later : (k o : ℕ) → o < n → requests (next_master n o) ≡ false → next_master n o ≢ m
      → Found requests cost n (next_master n o) m (tried requests n (next_master n (next_master n o)) k)
      → Found requests cost n o m (tried requests n (next_master n o) (suc k))
  later k o ho e q c =
      record {
        master = c.master;
        is = tried_next requests n k o e ∙ c.is;
        asks = c.asks;
        low = c.low;
        skipped = cost (next_master n o) + c.skipped;
        none = λ f.
            omega (
              arith,
              c.none (λ j h p. f j h (passed_on n o m j ho hm q p)),
              f (next_master n o) (above_lt n o (omega arith)) (passed_next n o m ho hm q) e,
            );
        passed = λ d. passed_on n o m c.master ho hm q (c.passed d);
        before =
            ⊎_elim
            (λ a. inl (a.0, omega (arith, between_step cost n o m ho hm q)))
            (λ a. inr (a.0, omega (arith, between_step cost n o m ho hm q)))
            c.before;
      }

  found : (k o : ℕ) → o < n → Within n k o m → Found requests cost n o m (tried requests n (next_master n o) k)
  found zero o ho w = absurd (within_zero n o m ho w)
  found (suc k) o ho w =
      go (requests (next_master n o)) refl
      (λ q. found k (next_master n o) (above_lt n o (omega arith)) (within_step n k o m ho hm q w))
    where
      go : (b : Bool) → requests (next_master n o) ≡ b
          → (next_master n o ≢ m → Found requests cost n (next_master n o) m (tried requests n (next_master n (next_master n o)) k))
          → Found requests cost n o m (tried requests n (next_master n o) (suc k))
      go true e f = here k o ho e
      go false e f =
          let q : next_master n o ≢ m = λ q. false≢true (sym e ∙ ap requests q ∙ asked) in
          later k o ho e q (f q)

  -- a requester m is found, or another before it
  pub requester_found : (o : ℕ) → o < n → Found requests cost n o m (first_requester requests n o)
  unfolding first_requester
  requester_found o ho = found n o ho (within_all n o m hm)

-- with no requester there is no first one
pub requester_nobody : (requests : ℕ → Bool) (n o : ℕ) → ((j : ℕ) → requests j ≡ false) → first_requester requests n o ≡ None
unfolding first_requester
requester_nobody requests n o h = go n o
  where
    go : (k p : ℕ) → tried requests n (next_master n p) k ≡ None
    go zero p = tried_none requests n (next_master n p) 0 refl
    go (suc k) p = tried_next requests n k p (h (next_master n p)) ∙ go k (next_master n p)
