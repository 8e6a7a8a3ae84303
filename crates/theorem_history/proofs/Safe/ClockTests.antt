-- A test on the answers of clocks: that one of the first n passes it (rules 6.2 to 6.4), where there are so many.
-- Assumes nothing.
use mathlib.Core.Path.{◌≡◌, refl, sym, ◌∙◌}
use mathlib.Core.Bool.{Bool, true, false, or-true, false≢true}
use mathlib.Core.List.{List, [], ◌∷◌}
use Prim.Native.Nat.{ℕ, zero, suc, ◌≤◌, ◌<◌}
use native.Mathlib.Omega.{arith}
use lib.ListN.{length, take}
use Rattle.fabric_state.specs.declared.Clocked.{Clocked}
use Rattle.theorem_history.specs.Claim.{any}

-- one of the first n
abbrev pub By : (Clocked → Bool) → ℕ → List Clocked → Type 0
By test n xs = n ≤ length xs → any test (take n xs) ≡ true

module _ (test : Clocked → Bool) where
  any_none : any test [] ≡ false
  unfolding any
  any_none = refl

  any_here : (a : Clocked) (xs : List Clocked) → test a ≡ true → any test (a ∷ xs) ≡ true
  unfolding any
  any_here a xs e = rw e

  any_later : (a : Clocked) (xs : List Clocked) → any test xs ≡ true → any test (a ∷ xs) ≡ true
  unfolding any
  any_later a xs e = rw e (or-true (test a))

  any_rest : (a : Clocked) (xs : List Clocked) → test a ≡ false → any test (a ∷ xs) ≡ any test xs
  unfolding any
  any_rest a xs e = rw e

  -- in a longer front too
  any_more : (i j : ℕ) (xs : List Clocked) → i ≤ j → any test (take i xs) ≡ true → any test (take j xs) ≡ true
  any_more i j [] h e = absurd (false≢true (sym (none i) ∙ e))
    where
      none : (i : ℕ) → any test (take i []) ≡ false
      none zero = any_none
      none (suc i) = any_none
  any_more zero j (a ∷ xs) h e = absurd (false≢true (sym any_none ∙ e))
  any_more (suc i) zero (a ∷ xs) h e = absurd (omega arith)
  any_more (suc i) (suc j) (a ∷ xs) h e = go (test a) refl (any_more i j xs (omega arith))
    where
      go : (c : Bool) → test a ≡ c → (any test (take i xs) ≡ true → any test (take j xs) ≡ true)
          → any test (a ∷ take j xs) ≡ true
      go true q f = any_here a (take j xs) q
      go false q f = any_later a (take j xs) (f (sym (any_rest a (take i xs) q) ∙ e))

  pub by_more : (i n : ℕ) (xs : List Clocked) → i ≤ n → By test i xs → By test n xs
  by_more i n xs h f l = any_more i n xs h (f (omega arith))

  -- the first clock passes it, or one of the i after it
  pub by_now : (n : ℕ) (a : Clocked) (xs : List Clocked) → 1 ≤ n → test a ≡ true → By test n (a ∷ xs)
  by_now zero a xs h e l = absurd (omega arith)
  by_now (suc n) a xs h e l = any_here a (take n xs) e

  pub by_later : (i n : ℕ) (a : Clocked) (xs : List Clocked) → i < n → By test i xs → By test n (a ∷ xs)
  by_later i zero a xs h f l = absurd (omega arith)
  by_later i (suc n) a xs h f l = any_later a (take n xs) (by_more i n xs (omega arith) f (omega arith))
