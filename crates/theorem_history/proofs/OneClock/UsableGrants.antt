-- The grants that a slave's last owner can still use (rules 4.4, 4.16): none behind a read with latency, because its master does not
-- request when the slave is free. A grant is the same with these in place of the grants that remain, where such a read counts as a
-- burst: no grant remains behind it.
-- Assumes nothing.
use mathlib.Core.Path.{◌≡◌, refl, ap, ◌∙◌}
use mathlib.Core.Bool.{Bool, true, false, cond, ◌&&◌}
use mathlib.Core.Logic.{◌⊎◌, inl, inr, ⊎_elim}
use Prim.Native.Nat.{ℕ, ◌-◌, ◌≤◌, ◌<◌}
use native.Mathlib.Decide.{ℕ_discrete}
use native.Mathlib.Omega.{arith}
use lib.Dec.{ltb, eqb}
use Rattle.std.specs.Prelude.{Option, Some, None}
use borrow.Author.Tests.{eq-eqb, ne_eqb}
use Rattle.description_board.specs.declared.Board.{Board}
use Rattle.description_board.specs.Records.{slave_at, shares_at}
use Rattle.fabric_transfer.specs.Accesses.{latency_of}
use Rattle.fabric_arbiter.specs.Choosing.{first_requester}
use Rattle.fabric_arbiter.specs.Granting.{kept, grant, grant_to, granted}
use Rattle.fabric_arbiter.proofs.OrderLaws.{grant_parts}
use Rattle.fabric_state.specs.declared.Slot.{Slot}
use Rattle.fabric_state.specs.declared.State.{State}
use Rattle.fabric_state.specs.Records.{transfer_at, slot_at, late_at}
use Rattle.fabric_state.specs.Soundness.{requests}
use Rattle.fabric_state.specs.Control.{grant_at}
use Rattle.fabric_state.proofs.RequestLaws.{requests_free}

-- the latency that the owner of the slot y of slave s has before it: behind the transfer in service, or still to pass
unfoldable pub ahead_in : Board → State → ℕ → Slot → ℕ
ahead_in b st s y = cond y.serving (latency_of (slave_at b s) (transfer_at st y.owner)) (late_at st y.owner)

-- the grants that it can use: where the slot is y, and as it stands
unfoldable pub usable_in : Board → State → ℕ → Slot → ℕ
usable_in b st s y = cond (eqb (ahead_in b st s y) 0) y.remaining 0

abbrev pub usable_at : Board → State → ℕ → ℕ
usable_at b st s = usable_in b st s (slot_at st s)

-- the latency behind the transfer of master j at slave s, and its beats, where a read with latency counts as a burst
abbrev pub behind_at : Board → State → ℕ → ℕ → ℕ
behind_at b st s j = latency_of (slave_at b s) (transfer_at st j)

unfoldable pub beats_at : Board → State → ℕ → ℕ → ℕ
beats_at b st s j = cond (eqb (behind_at b st s j) 0) (transfer_at st j).beats 2

-- of k grants those that are left behind that transfer
unfoldable pub usable_behind : Board → State → ℕ → ℕ → ℕ → ℕ
usable_behind b st s j k = cond (eqb (behind_at b st s j) 0) k 0

module _ (b : Board) (st : State) (s : ℕ) where
  pub ahead_serving : (y : Slot) → y.serving ≡ true → ahead_in b st s y ≡ behind_at b st s y.owner
  unfolding ahead_in
  ahead_serving y e = rw e

  pub ahead_resting : (y : Slot) → y.serving ≡ false → ahead_in b st s y ≡ late_at st y.owner
  unfolding ahead_in
  ahead_resting y e = rw e

  pub usable_all : (y : Slot) → ahead_in b st s y ≡ 0 → usable_in b st s y ≡ y.remaining
  unfolding usable_in
  usable_all y e = rw (eq-eqb (ahead_in b st s y) 0 e)

  pub usable_none : (y : Slot) → y.remaining ≡ 0 → usable_in b st s y ≡ 0
  unfolding usable_in
  usable_none y e = go (eqb (ahead_in b st s y) 0)
    where
      go : (c : Bool) → cond c y.remaining 0 ≡ 0
      go true = e
      go false = refl

  -- they are those that remain, or none
  pub usable_cases : (y : Slot) → ((ahead_in b st s y ≡ 0) × (usable_in b st s y ≡ y.remaining)) ⊎ (usable_in b st s y ≡ 0)
  unfolding usable_in
  usable_cases y = go (ℕ_discrete (ahead_in b st s y) 0)
    where
      go : Dec (ahead_in b st s y ≡ 0) → ((ahead_in b st s y ≡ 0) × (usable_in b st s y ≡ y.remaining)) ⊎ (usable_in b st s y ≡ 0)
      go (yes z) = inl (z, usable_all y z)
      go (no z) = inr (rw (ne_eqb (ahead_in b st s y) 0 z))

  pub usable_few : (y : Slot) (n : ℕ) → (y.remaining ≡ 0) ⊎ (y.remaining < n)
      → (usable_in b st s y ≡ 0) ⊎ (usable_in b st s y < n)
  usable_few y n h =
      ⊎_elim (λ a. ⊎_elim (λ z. inl (a.1 ∙ z)) (λ l. inr (omega (arith, a.1, l))) h) inl (usable_cases y)

  -- behind a grant
  pub usable_serving : (y : Slot) → y.serving ≡ true → usable_in b st s y ≡ usable_behind b st s y.owner y.remaining
  unfolding usable_in usable_behind
  usable_serving y e = rw (ahead_serving y e)

  pub beats_plain : (j : ℕ) → behind_at b st s j ≡ 0 → beats_at b st s j ≡ (transfer_at st j).beats
  unfolding beats_at
  beats_plain j e = rw (eq-eqb (behind_at b st s j) 0 e)

  pub beats_single : (j : ℕ) → beats_at b st s j ≤ 1 → (behind_at b st s j ≡ 0) × ((transfer_at st j).beats ≤ 1)
  unfolding beats_at
  beats_single j h = go (ℕ_discrete (behind_at b st s j) 0)
    where
      go : Dec (behind_at b st s j ≡ 0) → (behind_at b st s j ≡ 0) × ((transfer_at st j).beats ≤ 1)
      go (yes z) = (z, omega (arith, beats_plain j z, h))
      go (no z) = let two : beats_at b st s j ≡ 2 = rw (ne_eqb (behind_at b st s j) 0 z) in absurd (omega (arith, two, h))

  kept_as : (j p : ℕ) → kept (beats_at b st s j) p ≡ usable_behind b st s j (kept (transfer_at st j).beats p)
  unfolding kept beats_at usable_behind
  kept_as j p = go (eqb (behind_at b st s j) 0)
    where
      go : (c : Bool)
          → cond (ltb 1 (cond c (transfer_at st j).beats 2)) 0 p ≡ cond c (cond (ltb 1 (transfer_at st j).beats) 0 p) 0
      go true = refl
      go false = refl

  -- the grant of a slave that does not serve
  pub grant_usable : (slot_at st s).serving ≡ false → (j k : ℕ) → grant_at b st s ≡ grant j k
      → granted b.master_count (requests b st s) (λ i. shares_at b i s) (beats_at b st s)
      (record { owner = (slot_at st s).owner; remaining = usable_at b st s })
      ≡ grant j (usable_behind b st s j k)
  unfolding grant_at granted grant_to
  grant_usable rest j k e = go (requests b st s o) refl (ltb 0 r) refl e
    where
      o : ℕ
      o = (slot_at st s).owner

      r : ℕ
      r = (slot_at st s).remaining

      first : Option ℕ
      first = first_requester (requests b st s) b.master_count o

      shares : ℕ → ℕ
      shares i = shares_at b i s

      beats : ℕ → ℕ
      beats i = (transfer_at st i).beats

      -- the same master, with the same grants before its transfer is looked at
      same : (i p : ℕ) → grant i (kept (beats i) p) ≡ grant j k
          → grant i (kept (beats_at b st s i) p) ≡ grant j (usable_behind b st s j k)
      same i p f =
          let q = grant_parts f in
          ap (grant i) (kept_as i p) ∙ rw (q.1, q.0)

      fresh : (x : Option ℕ) → grant_to shares beats x ≡ grant j k
          → grant_to shares (beats_at b st s) x ≡ grant j (usable_behind b st s j k)
      fresh (Some i) f = same i (shares i - 1) f
      fresh None f = absurd (apart f)
        where
          apart : None ≡ grant j k → ⊥
          apart d = let z : ◌≡◌ {A = ℕ} 0 1 = cc in omega arith

      -- a last owner that requests has no latency before it
      own : requests b st s o ≡ true → usable_at b st s ≡ r
      own q = usable_all (slot_at st s) (ahead_resting (slot_at st s) rest ∙ requests_free b st s o q)

      go : (c : Bool) → requests b st s o ≡ c → (d : Bool) → ltb 0 r ≡ d
          → cond (c && d) (grant o (kept (beats o) (r - 1))) (grant_to shares beats first) ≡ grant j k
          → cond (requests b st s o && ltb 0 (usable_at b st s)) (grant o (kept (beats_at b st s o) (usable_at b st s - 1)))
          (grant_to shares (beats_at b st s) first)
          ≡ grant j (usable_behind b st s j k)
      go true q true d f = rw (q, own q, d) (same o (r - 1) f)
      go true q false d f = rw (q, own q, d) (fresh first f)
      go false q d h f = rw q (fresh first f)
