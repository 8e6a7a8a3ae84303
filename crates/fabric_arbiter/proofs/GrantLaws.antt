-- Rule 1 as the code meets it: who is granted, the winner's grant, the arbiter after it.
-- Assumes nothing.
use mathlib.Core.Path.{◌≡◌, refl, ◌∙◌}
use mathlib.Core.Bool.{Bool, true, false, cond, ◌&&◌, and-false}
use Prim.Native.Nat.{ℕ, zero, suc, ◌-◌, ◌≤◌, ◌<◌}
use native.Mathlib.Omega.{arith}
use Rattle.std.specs.Prelude.{Option, Some, None}
use lib.Dec.{ltb}
use borrow.Author.Tests.{lt-ltb, le-ltb}
use Rattle.common_laws.specs.Bits.{bit}
use Rattle.common_laws.proofs.BitLaws.{bit_above}
use Rattle.fabric_arbiter.specs.declared.Arbiter.{Arbiter}
use Rattle.fabric_arbiter.specs.declared.Winner.{Winner}
use Rattle.fabric_arbiter.specs.declared.Winner.TheVariants.{Again, First, NoOne}
use Rattle.fabric_arbiter.specs.Choosing.{next_master, tried, first_requester}
use Rattle.fabric_arbiter.specs.Granting.{kept, grant, grant_to, granted, arbiter_after}
use Rattle.fabric_arbiter.specs.Code.Winning.{first_of, winner_of, grant_by}

-- ---- who is granted

none_tried : (requests : ℕ → Bool) → ((m : ℕ) → requests m ≡ false) → (n m k : ℕ) → tried requests n m k ≡ None
unfolding tried
none_tried requests f n m zero = refl
none_tried requests f n m (suc k) = rw (f m) (none_tried requests f n (next_master n m) k)

pub none_requests : (n requests : ℕ) (a : Arbiter) → requests ≡ 0 → NoOne ≡ winner_of n (bit requests) a
unfolding winner_of first_requester first_of
none_requests n requests a e =
    let none : (m : ℕ) → bit 0 m ≡ false = λ m. bit_above 0 0 m (omega arith) (omega arith) in
    rw (e, none a.owner, none_tried (bit 0) none n (next_master n a.owner) n, first_of)

module _ (n : ℕ) (requests : ℕ → Bool) (a : Arbiter) where
  -- the last owner is not granted again
  pub PassedOver : Type 0
  PassedOver = (requests a.owner && ltb 0 a.remaining) ≡ false

  pub none_remaining : a.remaining ≤ 0 → PassedOver
  unfolding PassedOver
  none_remaining h = simp (le-ltb _ _ h, and-false)

  pub owner_silent : requests a.owner ≡ false → PassedOver
  unfolding PassedOver
  owner_silent h = rw h

  pub owner_again : requests a.owner ≡ true → 0 < a.remaining → Again ≡ winner_of n requests a
  unfolding winner_of
  owner_again q h = rw (q, lt-ltb _ _ h)

  pub search_wins : (c : Option ℕ) → PassedOver → c ≡ first_requester requests n a.owner → first_of c ≡ winner_of n requests a
  unfolding winner_of PassedOver
  search_wins c p e = rw (p, e)

-- ---- the winner's grant, and the arbiter after none

pub by_none : (a : Arbiter) (w : Winner) (shares beats : ℕ) → w ≡ NoOne → None ≡ grant_by a w shares beats
unfolding grant_by
by_none a w shares beats e = rw e

pub after_silent : (a : Arbiter) → arbiter_after a None ≡ record { owner = a.owner; remaining = 0 }
unfolding arbiter_after
after_silent a = refl

-- ---- both steps together are rule 1

module _ (n : ℕ) (requests : ℕ → Bool) (shares beats : ℕ → ℕ) (a : Arbiter) where
  -- a winner w, and the grant that the rule gives
  Rules : Winner → Option Arbiter → Type 0
  Rules w g = (y x : ℕ) → (w ≡ Again → x ≡ beats a.owner) → ((m : ℕ) → w ≡ First m → (y ≡ shares m) × (x ≡ beats m))
      → grant_by a w y x ≡ g

  first_rules : (c : Option ℕ) → Rules (first_of c) (grant_to shares beats c)
  unfolding Rules first_of grant_to grant_by
  first_rules (Some m) y x f g = rw ((g m refl).0, (g m refl).1)
  first_rules None y x f g = refl

  again_rules : Rules Again (grant a.owner (kept (beats a.owner) (a.remaining - 1)))
  unfolding Rules grant_by
  again_rules y x f g = rw (f refl)

  winner_rules : Rules (winner_of n requests a) (granted n requests shares beats a)
  unfolding winner_of granted
  winner_rules = go (requests a.owner && ltb 0 a.remaining)
    where
      go : (c : Bool)
          → Rules (cond c Again (first_of (first_requester requests n a.owner)))
          (cond c (grant a.owner (kept (beats a.owner) (a.remaining - 1)))
          (grant_to shares beats (first_requester requests n a.owner)))
      go true = again_rules
      go false = first_rules (first_requester requests n a.owner)

  -- the grant of the first requester, by the shares y and the beats x of that master, is the one of rule 1
  module _ {w : Winner} (e : w ≡ winner_of n requests a) where
    wins : (y x : ℕ) → (w ≡ Again → x ≡ beats a.owner) → ((m : ℕ) → w ≡ First m → (y ≡ shares m) × (x ≡ beats m))
        → grant_by a w y x ≡ granted n requests shares beats a
    unfolding Rules
    wins y x f g = rw e (winner_rules y x (λ q. f (e ∙ q)) (λ m q. g m (e ∙ q)))

    pub again_wins : (y x : ℕ) → w ≡ Again → x ≡ beats a.owner → grant_by a w y x ≡ granted n requests shares beats a
    again_wins y x q f = wins y x (λ _. f) (λ m p. let z : ◌≡◌ {A = ℕ} 0 1 = cc in absurd (omega arith))

    pub first_wins : (m y x : ℕ) → w ≡ First m → y ≡ shares m → x ≡ beats m
        → grant_by a w y x ≡ granted n requests shares beats a
    first_wins m y x q f g =
        wins y x (λ p. let z : ◌≡◌ {A = ℕ} 0 1 = cc in absurd (omega arith))
        (λ i p. let k : i ≡ m = cc in rw k (f, g))

    pub none_wins : (y x : ℕ) → w ≡ NoOne → grant_by a w y x ≡ granted n requests shares beats a
    none_wins y x q =
        wins y x (λ p. let z : ◌≡◌ {A = ℕ} 0 1 = cc in absurd (omega arith))
        (λ i p. let z : ◌≡◌ {A = ℕ} 0 1 = cc in absurd (omega arith))
