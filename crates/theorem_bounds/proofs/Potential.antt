-- One slave at a grant (rules 4.3 to 4.6): what a waiting master may still have to wait for falls at least by the length of what
-- is granted to another, and by exactly that length where everybody connected requests and uses up its grants.
-- Assumes nothing.
use mathlib.Core.Path.{◌≡◌, refl, sym, ap, ◌∙◌}
use mathlib.Core.Bool.{Bool, true, false, cond, ◌&&◌, false≢true}
use mathlib.Core.Logic.{◌⊎◌, inl, inr, ⊎_elim, ◌≢◌}
use Prim.Native.Nat.{ℕ, zero, suc, ◌+◌, ◌-◌, ◌≤◌, ◌<◌}
use native.Mathlib.Decide.{ℕ_discrete}
use native.Mathlib.Omega.{arith}
use Rattle.std.specs.Prelude.{Option, Some, None}
use lib.Dec.{ltb, eqb}
use borrow.Author.Tests.{ltb-true, ltb-false}
use Rattle.common_laws.specs.Lists.{sum}
use Rattle.fabric_arbiter.specs.declared.Arbiter.{Arbiter}
use Rattle.fabric_arbiter.specs.Choosing.{first_requester}
use Rattle.fabric_arbiter.specs.Granting.{kept, grant, grant_to, granted}
use Rattle.fabric_arbiter.proofs.OrderLaws.{grant_parts}
use Rattle.theorem_bounds.proofs.Order.{between, between_all, between_owner, sum_except, Passed, Found}
use Rattle.theorem_bounds.proofs.Order.{requester_found}
use Rattle.theorem_bounds.proofs.Credit.{credit, credit_zero, credit_le, spend}

-- ---- how a grant comes about

-- the last owner o is granted again, and of its r grants one fewer is left
pub record OwnerAgain (requests : ℕ → Bool) (o r j left : ℕ) : Type 0 where
  pub same : j ≡ o
  pub asks : requests o ≡ true
  pub had : r ≡ suc left

-- the first requester upward from o is granted, and its shares less 1 are left: o has no grants, or does not request
pub record FirstFound (n : ℕ) (requests : ℕ → Bool) (shares : ℕ → ℕ) (o r j left : ℕ) : Type 0 where
  pub first : first_requester requests n o ≡ Some j
  pub fresh : left ≡ shares j - 1
  pub lost : (r ≡ 0) ⊎ (requests o ≡ false)

-- Master j is granted, and k grants remain to it: none behind a burst, all that are left behind a single.
pub record Next (n : ℕ) (requests : ℕ → Bool) (shares beats : ℕ → ℕ) (o r j k : ℕ) : Type 0 where
  pub left : ℕ
  pub remains : k ≡ kept (beats j) left
  pub how : OwnerAgain requests o r j left ⊎ FirstFound n requests shares o r j left

granted_apart : (j p : ℕ) → grant j p ≢ None
granted_apart j p e = let z : ◌≡◌ {A = ℕ} 0 1 = cc in omega arith

pub grant_next : (n : ℕ) (requests : ℕ → Bool) (shares beats : ℕ → ℕ) (o r j k : ℕ)
    → granted n requests shares beats (record { owner = o; remaining = r }) ≡ grant j k
    → Next n requests shares beats o r j k
unfolding granted grant_to
grant_next n requests shares beats o r j k e = go (requests o) (ltb 0 r) refl refl e
  where
    -- what a granted master i is, and keeps
    same : (i p : ℕ) → grant i (kept (beats i) p) ≡ grant j k → (i ≡ j) × (k ≡ kept (beats j) p)
    same i p f = let q = grant_parts f in (q.0, rw (← q.0) (sym q.1))

    fresh : (x : Option ℕ) → first_requester requests n o ≡ x → (r ≡ 0) ⊎ (requests o ≡ false)
        → grant_to shares beats x ≡ grant j k → Next n requests shares beats o r j k
    fresh (Some i) c h f =
        let q = same i (shares i - 1) f in
        let found : FirstFound n requests shares o r j (shares i - 1) =
        record { first = c ∙ ap Some q.0; fresh = rw q.0; lost = h } in
        record { left = shares i - 1; remains = q.1; how = inr found }
    fresh None c h f = absurd (granted_apart j k (sym f))

    go : (b c : Bool) → requests o ≡ b → ltb 0 r ≡ c
        → cond (b && c) (grant o (kept (beats o) (r - 1))) (grant_to shares beats (first_requester requests n o)) ≡ grant j k
        → Next n requests shares beats o r j k
    go true true q c f =
        let p = same o (r - 1) f in
        let again : OwnerAgain requests o r j (r - 1) =
        record { same = sym p.0; asks = q; had = omega (arith, ltb-true 0 r c) } in
        record { left = r - 1; remains = p.1; how = inl again }
    go true false q c f = fresh (first_requester requests n o) refl (inl (omega (arith, ltb-false 0 r c))) f
    go false c q d f = fresh (first_requester requests n o) refl (inr q) f

-- ---- what a master may have to wait for

-- the slave's masters: shares, and the clocks of a single and of the longest transfer
module _ (n : ℕ) (shares single serve : ℕ → ℕ) where
  -- the clocks that r grants of master j last, and its turn (rule 5.6)
  abbrev afford : ℕ → ℕ → ℕ
  afford j r = credit (single j) (serve j) r

  abbrev turn : ℕ → ℕ
  turn j = afford j (shares j)

  -- the turns of all other masters (rule 5.7)
  abbrev pub quoted : ℕ → ℕ
  quoted m = sum (λ j. cond (eqb j m) 0 (turn j)) n

  pub quoted_between : (m : ℕ) → m < n → quoted m ≡ between turn n m m
  quoted_between m h = omega (arith, sum_except turn m n h, between_all turn n m h)

  -- what m may have to wait for behind the owner o: the clocks left of its transfer, its grants, the turns between
  abbrev pub pot : ℕ → ℕ → ℕ → ℕ → ℕ
  pot m o r left = left + afford o r + between turn n o m

  -- where what o has is within its turn, and m is not the owner with grants: no more than is quoted
  pub pot_quoted : (m o r left : ℕ) → m < n → o < n → left + afford o r ≤ turn o → (o ≡ m → (r ≡ 0) × (left ≡ 0))
      → pot m o r left ≤ quoted m
  pot_quoted m o r left hm ho h a = go (ℕ_discrete o m)
    where
      go : Dec (o ≡ m) → pot m o r left ≤ quoted m
      go (yes q) =
          omega (
            arith,
            a q,
            credit_zero (single o) (serve o) r (a q).0,
            quoted_between m hm,
            ap (λ (z : ℕ). between turn n z m) q,
          )
      go (no q) = omega (arith, quoted_between m hm, between_owner turn n o m ho hm q)

  -- ---- a grant

  -- what is asked of the slave, and how long each request lasts
  module _ (requests : ℕ → Bool) (beats long : ℕ → ℕ)
      (asks : (j : ℕ) → j < n → requests j ≡ true → (1 ≤ shares j) × (long j ≤ serve j) × (beats j ≤ 1 → long j ≤ single j)) where
    abbrev given : ℕ → ℕ → Option Arbiter
    given o r = granted n requests shares beats (record { owner = o; remaining = r })

    -- a requester exists: somebody is granted
    pub some_grant : (m o r : ℕ) → m < n → o < n → requests m ≡ true → given o r ≢ None
    unfolding granted grant_to
    some_grant m o r hm ho q e = go (requests o && ltb 0 r) e
      where
        f : Found requests turn n o m (first_requester requests n o)
        f = requester_found requests turn n m hm q o ho

        fresh : (x : Option ℕ) → x ≡ Some f.master → grant_to shares beats x ≢ None
        fresh x i d = granted_apart _ _ (ap (grant_to shares beats) (sym i) ∙ d)

        go : (b : Bool)
            → cond b (grant o (kept (beats o) (r - 1))) (grant_to shares beats (first_requester requests n o)) ≢ None
        go true d = granted_apart _ _ d
        go false d = fresh (first_requester requests n o) f.is d

    -- where m requests, and j is granted
    module _ (m o r : ℕ) (hm : m < n) (ho : o < n) (waiting : requests m ≡ true) (j k : ℕ) (g : given o r ≡ grant j k) where
      f : Found requests turn n o m (first_requester requests n o)
      f = requester_found requests turn n m hm waiting o ho

      next : Next n requests shares beats o r j k
      next = grant_next n requests shares beats o r j k g

      fresh_master : first_requester requests n o ≡ Some j → f.master ≡ j
      fresh_master e = let z : Some f.master ≡ Some j = sym f.is ∙ e in cc

      -- the granted master requests, and its transfer with what remains is within its grants
      grant_asks : (j < n) × (requests j ≡ true)
      grant_asks =
          ⊎_elim
          (λ h. (rw h.same ho, ap requests h.same ∙ h.asks))
          (λ h. let e = fresh_master h.first in (rw (← e) f.low, ap requests (sym e) ∙ f.asks))
          next.how

      grant_spend : long j + afford j k ≤ afford j (suc next.left)
      grant_spend =
          let a = asks j grant_asks.0 grant_asks.1 in
          omega (arith, ap (afford j) next.remains, spend (single j) (serve j) (beats j) (long j) a.1 a.2 next.left)

      -- and within its turn, where the last owner's remaining grants were below its shares
      pub grant_turn : (r ≡ 0) ⊎ (r < shares o) → long j + afford j k ≤ turn j
      grant_turn l =
          let few = ⊎_elim again fresh next.how in
          omega (arith, grant_spend, credit_le (single j) (serve j) (suc next.left) (shares j) few)
        where
          again : OwnerAgain requests o r j next.left → suc next.left ≤ shares j
          again h = ⊎_elim (λ z. absurd (omega (arith, h.had))) (λ z. omega (arith, h.had, ap shares h.same)) l

          fresh : FirstFound n requests shares o r j next.left → suc next.left ≤ shares j
          fresh h = omega (arith, h.fresh, (asks j grant_asks.0 grant_asks.1).0)

      -- it is the last owner again, or is passed on the way up to m
      pub grant_passes : j ≢ m → (j ≡ o) ⊎ Passed o m j
      grant_passes d =
          ⊎_elim (λ h. inl h.same)
          (λ h. let e = fresh_master h.first in inr (rw e at (f.passed (λ q. d (sym e ∙ q))))) next.how

      -- What m may have to wait for, before the grant and after it. `unused` are the clocks that nobody uses: the turns of
      -- masters passed over, and the grants that a last owner loses. Where m is granted, nothing else was to wait for; where
      -- another is granted, that one's grants were.
      record Change : Type 0 where
        unused : ℕ
        goes : ((j ≡ m) × (afford o r + between turn n o m ≡ unused))
            ⊎ ((j ≢ m) × (afford j (suc next.left) + between turn n j m + unused ≡ afford o r + between turn n o m))
        none : f.skipped ≡ 0 → ((r ≡ 0) ⊎ (requests o ≡ false) → r ≡ 0) → unused ≡ 0

      change : (o ≡ m → r ≡ 0) → Change
      change a = ⊎_elim again fresh next.how
        where
          again : OwnerAgain requests o r j next.left → Change
          again h = record {
            unused = 0;
            goes =
                inr (
                  (λ q. omega (arith, h.had, a (sym h.same ∙ q))),
                  omega (
                    arith,
                    ap (λ (z : ℕ). between turn n z m) h.same,
                    ap (λ (z : ℕ). afford z (suc next.left)) h.same,
                    ap (afford o) h.had,
                  ),
                );
            none = λ s l. refl;
          }

          fresh : FirstFound n requests shares o r j next.left → Change
          fresh h =
              let e = fresh_master h.first in
              let s = (asks j grant_asks.0 grant_asks.1).0 in
              let whole : suc next.left ≡ shares j = omega (arith, h.fresh) in
              record {
                unused = f.skipped + afford o r;
                goes =
                    ⊎_elim
                    (λ c. inl (sym e ∙ c.0, omega (arith, c.1)))
                    (λ c.
                    inr (
                      (λ q. c.0 (e ∙ q)),
                      omega (arith, c.1, ap turn e, ap (λ (z : ℕ). between turn n z m) e, ap (afford j) whole),
                    ))
                    f.before;
                none = λ s l. omega (arith, s, credit_zero (single o) (serve o) r (l h.lost));
              }

      -- a transfer granted to another is within what m may have to wait for
      pub grant_falls : j ≢ m → (o ≡ m → r ≡ 0)
          → long j + afford j k + between turn n j m ≤ afford o r + between turn n o m
      grant_falls d a =
          ⊎_elim (λ c. absurd (d c.0)) (λ c. omega (arith, grant_spend, c.1)) (change a).goes

      -- where everybody connected on the way up to m requests, and the last owner as long as it has grants, and a request uses up
      -- its master's grants, no clock goes unused: m is granted only with nothing left to wait for
      pub grant_exactly : ((i : ℕ) → i < n → Passed o m i → 1 ≤ shares i → requests i ≡ true)
          → (1 ≤ r → requests o ≡ true)
          → ((x : Next n requests shares beats o r j k) → long j + afford j k ≡ afford j (suc x.left))
          → (o ≡ m → r ≡ 0)
          → ((j ≡ m) × (afford o r + between turn n o m ≡ 0))
          ⊎ ((j ≢ m) × (long j + afford j k + between turn n j m ≡ afford o r + between turn n o m))
      grant_exactly full own uses a =
          let z = (change a).none no_skip (no_grants r refl) in
          ⊎_elim (λ c. inl (c.0, c.1 ∙ z)) (λ c. inr (c.0, omega (arith, c.1, z, uses next))) (change a).goes
        where
          no_skip : f.skipped ≡ 0
          no_skip = f.none (λ i h p q. quiet i h p q (shares i) refl)
            where
              quiet : (i : ℕ) → i < n → Passed o m i → requests i ≡ false → (c : ℕ) → shares i ≡ c → turn i ≡ 0
              quiet i h p q zero e = credit_zero (single i) (serve i) (shares i) e
              quiet i h p q (suc c) e = absurd (false≢true (sym q ∙ full i h p (omega arith)))

          no_grants : (c : ℕ) → r ≡ c → (r ≡ 0) ⊎ (requests o ≡ false) → r ≡ 0
          no_grants c e (inl h) = h
          no_grants zero e (inr h) = e
          no_grants (suc c) e (inr h) = absurd (false≢true (sym h ∙ own (omega arith)))
