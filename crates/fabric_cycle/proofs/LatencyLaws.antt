-- The latency clocks of one clock (rule 4.16): the loop over the masters that counts them.
-- Assumes nothing.
use mathlib.Core.Path.{◌≡◌, refl, sym, ap, ◌∙◌}
use mathlib.Core.Bool.{Bool, true, false, cond}
use mathlib.Core.List.{List}
use mathlib.Core.Logic.{◌≢◌}
use Prim.Native.Nat.{ℕ, zero, suc, ◌+◌, ◌-◌, ◌^◌, ◌≤◌, ◌<◌}
use native.Mathlib.Decide.{ℕ_discrete}
use native.Mathlib.Numerals.{add-one}
use native.Mathlib.Omega.{arith}
use lib.Dec.{ltb, eqb}
use lib.ListN.{length, get_or, set}
use lib.Pow.{pow_mono}
use lib.Seq.{set-get_or}
use borrow.Author.Tests.{lt-ltb, le-ltb, eq-eqb, ne_eqb, eqb-true}
use Rattle.common_laws.specs.Lists.{sum}
use Rattle.common_laws.proofs.TableLaws.{get_or_table, mask, mask_lt}
use Rattle.common_laws.proofs.FillLaws.{sum_same, table_is, filled, filled_none, filled_next}
use Rattle.fabric_transfer.specs.declared.Transfer.{Transfer}
use Rattle.fabric_transfer.specs.Accesses.{no_transfer}
use Rattle.fabric_state.specs.declared.State.{State}
use Rattle.fabric_state.specs.Records.{transfer_at, late_at}
use Rattle.fabric_state.specs.Posting.{with_transfer}
use Rattle.fabric_layout.specs.Code.Puts.{with_late}
use Rattle.fabric_cycle.specs.declared.Latent.{Latent}
use Rattle.fabric_cycle.specs.Code.Latency.{counted_transfer, counted_at, Counted}

-- one number more of a sum
pub sum_more : (f : ℕ → ℕ) (m : ℕ) {t r : ℕ} → t ≡ sum f m → r ≡ f m → t + r ≡ sum f (m + 1)
unfolding sum
sum_more f m e q = rw (add-one m, e, q)

-- numbers that add up to 0 are 0
sum_none : (f : ℕ → ℕ) (n : ℕ) → sum f n ≡ 0 → (i : ℕ) → i < n → f i ≡ 0
unfolding sum
sum_none f zero e i h = absurd (omega arith)
sum_none f (suc n) e i h = go (ℕ_discrete i n) (λ l. sum_none f n (omega (arith, e)) i l)
  where
    go : Dec (i ≡ n) → (i < n → f i ≡ 0) → f i ≡ 0
    go (yes q) rest = let z : f n ≡ 0 = omega (arith, e) in rw q z
    go (no q) rest = rest (omega arith)

-- ---- one master

-- the ways of the code
module _ (st : State) (m n : ℕ) where
  pub counted_none : n ≡ 0 → st ≡ counted_at st m n
  unfolding counted_at
  counted_none e = rw (eq-eqb n 0 e)

  pub counted_last : {u v : State} → n ≢ 0 → n ≡ 1 → u ≡ with_late st m (n - 1) → v ≡ with_transfer u m no_transfer
      → v ≡ counted_at st m n
  unfolding counted_at
  counted_last h e f g =
      let z : n - 1 ≡ 0 = omega (arith, e) in
      g ∙ rw (f, z, ne_eqb n 0 h, eq-eqb n 1 e)

  pub counted_less : {u : State} → n ≢ 0 → n ≢ 1 → u ≡ with_late st m (n - 1) → u ≡ counted_at st m n
  unfolding counted_at
  counted_less h e f = f ∙ rw (ne_eqb n 0 h, ne_eqb n 1 e)

-- what it changes of the state
module _ (st : State) (m : ℕ) where
  counted_slots : (n : ℕ) → (counted_at st m n).slots ≡ st.slots
  unfolding counted_at with_transfer with_late
  counted_slots n = go (eqb n 0) (eqb n 1)
    where
      go : (c d : Bool)
          → (cond c st (cond d (with_transfer (with_late st m 0) m no_transfer) (with_late st m (n - 1)))).slots ≡ st.slots
      go true d = refl
      go false true = refl
      go false false = refl

  counted_log : (n : ℕ) → (counted_at st m n).log ≡ st.log
  unfolding counted_at with_transfer with_late
  counted_log n = go (eqb n 0) (eqb n 1)
    where
      go : (c d : Bool)
          → (cond c st (cond d (with_transfer (with_late st m 0) m no_transfer) (with_late st m (n - 1)))).log ≡ st.log
      go true d = refl
      go false true = refl
      go false false = refl

  counted_transfers : (n : ℕ)
      → (counted_at st m n).transfers ≡ set st.transfers m (cond (eqb n 1) no_transfer (transfer_at st m))
  unfolding counted_at with_transfer with_late
  counted_transfers n = go (eqb n 0) refl (eqb n 1) refl
    where
      same : st.transfers ≡ set st.transfers m (transfer_at st m)
      same = sym (set-get_or st.transfers m no_transfer)

      go : (c : Bool) → eqb n 0 ≡ c → (d : Bool) → eqb n 1 ≡ d
          → (cond c st (cond d (with_transfer (with_late st m 0) m no_transfer) (with_late st m (n - 1)))).transfers
          ≡ set st.transfers m (cond d no_transfer (transfer_at st m))
      go true e true f = absurd (apart (eqb-true n 0 e) (eqb-true n 1 f))
        where
          apart : n ≡ 0 → n ≡ 1 → ⊥
          apart p q = omega (arith, p, q)
      go true e false f = same
      go false e true f = refl
      go false e false f = same

  counted_lates : (n : ℕ) → n ≡ late_at st m → (counted_at st m n).late ≡ set st.late m (n - 1)
  unfolding counted_at with_transfer with_late
  counted_lates n q = go (eqb n 0) refl (eqb n 1) refl
    where
      go : (c : Bool) → eqb n 0 ≡ c → (d : Bool) → eqb n 1 ≡ d
          → (cond c st (cond d (with_transfer (with_late st m 0) m no_transfer) (with_late st m (n - 1)))).late
          ≡ set st.late m (n - 1)
      go true e d f =
          let z = eqb-true n 0 e in
          let w : n - 1 ≡ late_at st m = omega (arith, q, z) in
          sym (ap (set st.late m) w ∙ set-get_or st.late m 0)
      go false e true f =
          let z = eqb-true n 1 f in
          let w : n - 1 ≡ 0 = omega (arith, z) in
          rw w
      go false e false f = refl

-- ---- all of them

module _ (u : State) where
  -- none of the masters is counted yet
  pub counted_begin : length u.transfers ≡ 8 → length u.late ≡ 8 → Counted u u 0 (record { free = 0; finished = 0 })
  unfolding sum filled
  counted_begin l k = record {
    slots = refl;
    log = refl;
    transfers = filled_none (counted_transfer u) (transfer_at u) 8 no_transfer u.transfers l (λ m h. refl);
    late = filled_none (λ m. late_at u m - 1) (late_at u) 8 0 u.late k (λ m h. refl);
    free = refl;
    finished = refl;
  }

  module _ {v : State} {m : ℕ} {r : Latent} (p : Counted u v m r) (h : m < 8) where
    late_here : late_at v m ≡ late_at u m
    late_here =
        ap (λ (l : List ℕ). get_or l m 0) p.late
        ∙ get_or_table (λ i. cond (ltb i m) (late_at u i - 1) (late_at u i)) 8 0 m h
        ∙ rw (le-ltb m m (omega arith))

    transfer_here : transfer_at v m ≡ transfer_at u m
    transfer_here =
        ap (λ (l : List Transfer). get_or l m no_transfer) p.transfers
        ∙ get_or_table (λ i. cond (ltb i m) (counted_transfer u i) (transfer_at u i)) 8 no_transfer m h
        ∙ rw (le-ltb m m (omega arith))

    -- a master more, which has n of them
    module _ {n a b : ℕ} (read : n ≡ late_at v m) (ea : a ≡ cond (eqb n 0) (2 ^ m) 0) (eb : b ≡ cond (eqb n 1) (2 ^ m) 0) where
      free_next : r.free + a ≡ mask (λ i. eqb (late_at u i) 0) (m + 1)
      unfolding sum
      free_next = rw (add-one m, p.free, ea, read, late_here)

      finished_next : r.finished + b ≡ mask (λ i. eqb (late_at u i) 1) (m + 1)
      unfolding sum
      finished_next = rw (add-one m, p.finished, eb, read, late_here)

      pub counted_next : {w : State} → w ≡ counted_at v m n
          → Counted u w (m + 1) (record { free = r.free + a; finished = r.finished + b })
      unfolding filled counted_transfer
      counted_next e = record {
        slots = ap (λ (x : State). x.slots) e ∙ counted_slots v m n ∙ p.slots;
        log = ap (λ (x : State). x.log) e ∙ counted_log v m n ∙ p.log;
        transfers =
            ap (λ (x : State). x.transfers) e ∙ counted_transfers v m n
            ∙ filled_next (counted_transfer u) (transfer_at u) 8 m p.transfers
            (rw (read, late_here, transfer_here));
        late =
            ap (λ (x : State). x.late) e ∙ counted_lates v m n read
            ∙ filled_next (λ i. late_at u i - 1) (late_at u) 8 m p.late (rw (read, late_here));
        free = free_next;
        finished = finished_next;
      }

      fits : (test : ℕ → Bool) → mask test (m + 1) < 256
      fits test =
          let q : m + 1 ≤ 8 = omega arith in
          let small : 2 ^ (m + 1) ≤ 2 ^ 8 = pow_mono q in
          omega (arith, mask_lt test (m + 1), small)

      pub free_fits : r.free + a < 256
      free_fits = rw free_next (fits (λ i. eqb (late_at u i) 0))

      pub finished_fits : r.finished + b < 256
      finished_fits = rw finished_next (fits (λ i. eqb (late_at u i) 1))

-- ---- none of them has any

module _ (u : State) (l : length u.transfers ≡ 8) (k : length u.late ≡ 8) (none : sum (late_at u) 8 ≡ 0) where
  zero_each : (m : ℕ) → m < 8 → late_at u m ≡ 0
  zero_each m h = sum_none (late_at u) 8 none m h

  pub counted_idle : Counted u u 8 (record { free = 255; finished = 0 })
  unfolding counted_transfer sum
  counted_idle = record {
    slots = refl;
    log = refl;
    transfers =
        table_is (λ m. cond (ltb m 8) (counted_transfer u m) (transfer_at u m)) 8 no_transfer u.transfers l
        (λ m h. rw (lt-ltb m 8 h, zero_each m h));
    late =
        table_is (λ m. cond (ltb m 8) (late_at u m - 1) (late_at u m)) 8 0 u.late k
        (λ m h. rw (lt-ltb m 8 h, zero_each m h));
    free = sum_same (λ m. 2 ^ m) (λ m. cond (eqb (late_at u m) 0) (2 ^ m) 0) 8 (λ m h. rw (zero_each m h));
    finished = sum_same (λ m. 0) (λ m. cond (eqb (late_at u m) 1) (2 ^ m) 0) 8 (λ m h. rw (zero_each m h));
  }
