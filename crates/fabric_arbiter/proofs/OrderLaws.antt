-- Whom a grant goes to: a master of the board that requests; and the grants that then remain to it.
-- Assumes nothing.
use mathlib.Core.Path.{◌≡◌, refl, ap}
use mathlib.Core.Bool.{Bool, true, false, cond, ◌&&◌}
use mathlib.Core.Logic.{◌⊎◌, ⊎_elim}
use Prim.Native.Nat.{ℕ, zero, suc, ◌+◌, ◌-◌, ◌≤◌, ◌<◌}
use native.Mathlib.Omega.{arith}
use Rattle.std.specs.Prelude.{Option, Some, None}
use Rattle.std.proofs.lemmas.Option.{same_Some}
use lib.Dec.{ltb}
use borrow.Author.Tests.{ltb-true}
use Rattle.common_laws.proofs.Tests.{both}
use Rattle.fabric_arbiter.specs.declared.Arbiter.{Arbiter}
use Rattle.fabric_arbiter.specs.declared.Winner.TheVariants.{Again, First}
use Rattle.fabric_arbiter.specs.Choosing.{next_master, tried, first_requester}
use Rattle.fabric_arbiter.specs.Granting.{kept, grant, grant_to, granted}
use Rattle.fabric_arbiter.specs.Code.Winning.{first_of, winner_of}

pub above_lt : (n m : ℕ) → 0 < n → next_master n m < n
unfolding next_master
above_lt n m h = go (ltb (m + 1) n) refl
  where
    go : (c : Bool) → ltb (m + 1) n ≡ c → cond c (m + 1) 0 < n
    go true e = ltb-true (m + 1) n e
    go false e = h

pub kept_le : (beats r : ℕ) → kept beats r ≤ r
unfolding kept
kept_le beats r = go (ltb 1 beats)
  where
    go : (c : Bool) → cond c 0 r ≤ r
    go true = omega arith
    go false = omega arith

pub tried_asks : (requests : ℕ → Bool) (n k m j : ℕ) → m < n → tried requests n m k ≡ Some j
    → (requests j ≡ true) × (j < n)
unfolding tried
tried_asks requests n zero m j h e = let z : ◌≡◌ {A = ℕ} 0 1 = cc in absurd (omega arith)
tried_asks requests n (suc k) m j h e =
    go (requests m) refl (tried_asks requests n k (next_master n m) j (above_lt n m (omega arith)))
  where
    go : (c : Bool) → requests m ≡ c
        → (tried requests n (next_master n m) k ≡ Some j → (requests j ≡ true) × (j < n)) → (requests j ≡ true) × (j < n)
    go true q f = let i : m ≡ j = cc in (cc, omega arith)
    go false q f = f (rw (q, tried) at e)

pub chosen_asks : (requests : ℕ → Bool) (n owner j : ℕ) → first_requester requests n owner ≡ Some j
    → (requests j ≡ true) × (j < n)
unfolding first_requester tried
chosen_asks requests zero owner j e = let z : ◌≡◌ {A = ℕ} 0 1 = cc in absurd (omega arith)
chosen_asks requests (suc n) owner j e =
    tried_asks requests (suc n) (suc n) (next_master (suc n) owner) j (above_lt (suc n) owner (omega arith)) e

-- whoever is to be granted requests
module _ (n : ℕ) (requests : ℕ → Bool) (a : Arbiter) where
  pub winner_again : winner_of n requests a ≡ Again → requests a.owner ≡ true
  unfolding winner_of first_of
  winner_again e = go (requests a.owner && ltb 0 a.remaining) refl
    where
      none : (c : Option ℕ) → first_of c ≡ Again → requests a.owner ≡ true
      none (Some m) f = let z : ◌≡◌ {A = ℕ} 0 1 = cc in absurd (omega arith)
      none None f = let z : ◌≡◌ {A = ℕ} 0 1 = cc in absurd (omega arith)

      go : (c : Bool) → (requests a.owner && ltb 0 a.remaining) ≡ c → requests a.owner ≡ true
      go true q = (both (requests a.owner) (ltb 0 a.remaining) q).0
      go false q = none (first_requester requests n a.owner) (rw (q, winner_of) at e)

  pub winner_first : (j : ℕ) → winner_of n requests a ≡ First j → (requests j ≡ true) × (j < n)
  unfolding winner_of first_of
  winner_first j e = go (requests a.owner && ltb 0 a.remaining) refl
    where
      found : (c : Option ℕ) → first_requester requests n a.owner ≡ c → first_of c ≡ First j → (requests j ≡ true) × (j < n)
      found (Some m) q f = let i : m ≡ j = cc in chosen_asks requests n a.owner j (rw i at q)
      found None q f = let z : ◌≡◌ {A = ℕ} 0 1 = cc in absurd (omega arith)

      go : (c : Bool) → (requests a.owner && ltb 0 a.remaining) ≡ c → (requests j ≡ true) × (j < n)
      go true q = let f : Again ≡ First j = rw (q, winner_of) at e in let z : ◌≡◌ {A = ℕ} 0 1 = cc in absurd (omega arith)
      go false q = found (first_requester requests n a.owner) refl (rw (q, winner_of) at e)

-- a grant looks at the beats of a requester alone
pub granted_agree : (n : ℕ) (requests : ℕ → Bool) (shares beats others : ℕ → ℕ) (a : Arbiter)
    → ((m : ℕ) → requests m ≡ true → beats m ≡ others m)
    → granted n requests shares beats a ≡ granted n requests shares others a
unfolding granted grant_to
granted_agree n requests shares beats others a same = go (requests a.owner && ltb 0 a.remaining) refl
  where
    another : (c : Option ℕ) → first_requester requests n a.owner ≡ c → grant_to shares beats c ≡ grant_to shares others c
    another (Some m) e = rw (same m (chosen_asks requests n a.owner m e).0)
    another None e = refl

    go : (c : Bool) → (requests a.owner && ltb 0 a.remaining) ≡ c
        → cond c (grant a.owner (kept (beats a.owner) (a.remaining - 1)))
        (grant_to shares beats (first_requester requests n a.owner))
        ≡ cond c (grant a.owner (kept (others a.owner) (a.remaining - 1)))
        (grant_to shares others (first_requester requests n a.owner))
    go true q = rw (same a.owner (both (requests a.owner) (ltb 0 a.remaining) q).0)
    go false q = another (first_requester requests n a.owner) refl

-- master j is granted, and r grants remain to it
pub record Grants (n : ℕ) (requests : ℕ → Bool) (shares : ℕ → ℕ) (j r : ℕ) : Type 0 where
  pub asks : requests j ≡ true
  pub within : j < n
  pub left : r < shares j

-- two grants that are equal go to one master, with the same grants remaining to it
pub grant_parts : {m r j k : ℕ} → grant m r ≡ grant j k → (m ≡ j) × (r ≡ k)
grant_parts e = let f = same_Some _ _ e in (ap (λ x. x.owner) f, ap (λ x. x.remaining) f)

grants_same : (n : ℕ) (requests : ℕ → Bool) (shares : ℕ → ℕ) (m x j r : ℕ) → grant m x ≡ grant j r
    → Grants n requests shares m x → Grants n requests shares j r
grants_same n requests shares m x j r e f =
    let p = grant_parts e in
    rw (p.0, p.1) at f

-- where whoever requests has shares, and the last owner's remaining grants are below its shares
module _
    (n : ℕ) (requests : ℕ → Bool) (shares beats : ℕ → ℕ) (a : Arbiter) (owned : a.owner < n)
    (some : (i : ℕ) → requests i ≡ true → 1 ≤ shares i)
    (less : (a.remaining ≡ 0) ⊎ (a.remaining < shares a.owner))
  where
    again : (requests a.owner && ltb 0 a.remaining) ≡ true
        → Grants n requests shares a.owner (kept (beats a.owner) (a.remaining - 1))
    again q =
        let p = both (requests a.owner) (ltb 0 a.remaining) q in
        let h = ltb-true 0 a.remaining p.1 in
        let l = kept_le (beats a.owner) (a.remaining - 1) in
        record {
          asks = p.0;
          within = owned;
          left = ⊎_elim (λ (e : a.remaining ≡ 0). omega arith) (λ (e : a.remaining < shares a.owner). omega arith) less;
        }

    another : (c : Option ℕ) (j r : ℕ) → first_requester requests n a.owner ≡ c → grant_to shares beats c ≡ grant j r
        → Grants n requests shares j r
    unfolding grant_to
    another (Some m) j r e g =
        let f = chosen_asks requests n a.owner m e in
        let l = kept_le (beats m) (shares m - 1) in
        let h = some m f.0 in
        grants_same n requests shares m _ j r g (record { asks = f.0; within = f.1; left = omega arith })
    another None j r e g = let z : ◌≡◌ {A = ℕ} 0 1 = cc in absurd (omega arith)

    pub granted_facts : (j r : ℕ) → granted n requests shares beats a ≡ grant j r → Grants n requests shares j r
    unfolding granted
    granted_facts j r g = go (requests a.owner && ltb 0 a.remaining) refl
      where
        go : (c : Bool) → (requests a.owner && ltb 0 a.remaining) ≡ c → Grants n requests shares j r
        go true q = grants_same n requests shares a.owner _ j r (rw (q, granted) at g) (again q)
        go false q = another (first_requester requests n a.owner) j r refl (rw (q, granted) at g)
