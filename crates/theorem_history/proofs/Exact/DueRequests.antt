-- What a master posts at a slave to use up its grants there: singles while grants are to come, the longest transfer at the last.
-- Such a transfer is not refused and lasts exactly as long as is quoted; a single has no latency behind it.
-- Assumes nothing.
use mathlib.Core.Path.{◌≡◌, refl, sym, ap, ◌∙◌}
use mathlib.Core.Bool.{Bool, true, false, cond, or-true}
use Prim.Native.Nat.{ℕ, zero, suc, ◌+◌, ◌*◌, ◌/◌, ◌%◌, ◌≤◌, ◌<◌, max}
use native.Mathlib.Nat.{one-mul, le_refl, le_trans, mul-le-mul, div-mul-le_self, min-le_left, min-le_right}
use native.Mathlib.Decide.{ℕ_discrete}
use native.Mathlib.Omega.{arith}
use lib.Dec.{leb, eqb}
use lib.Count.{ones, ones_in, count_trailing_zeros}
use lib.ListN.{length, replicate, length-replicate}
use borrow.Author.Tests.{le-ltb, eq-eqb, ne_eqb, leb-true, leb-false}
use Rattle.common_laws.specs.Lists.{member}
use Rattle.common_laws.proofs.TableLaws.{member_each}
use Rattle.description_board.specs.declared.Board.{Board}
use Rattle.description_board.specs.Records.{Slave}
use Rattle.description_board.specs.Records.{master_at, slave_at, shares_at}
use Rattle.description_board.specs.Rules.{widths}
use Rattle.description_board.specs.Legal.{Legal}
use Rattle.description_board.proofs.RuleLaws.{width_bound, burst_bound, span_bound}
use Rattle.fabric_transfer.specs.declared.Transfer.{Transfer}
use Rattle.fabric_lanes.specs.Lanes.{all_lanes, lowest, adjacent, legal_lanes, post_lanes}
use Rattle.fabric_transfer.specs.Decoding.{selects, target_of}
use Rattle.fabric_transfer.specs.Alignment.{ratio}
use Rattle.fabric_transfer.specs.Accesses.{wait_of, latency_of, own_length}
use Rattle.fabric_transfer.proofs.PowerLaws.{legal_widths}
use Rattle.fabric_transfer.proofs.NumberLaws.{accesses_full}
use Rattle.fabric_transfer.proofs.AccessLaws.{base_aligned}
use Rattle.fabric_transfer.proofs.SelectLaws.{selects_of, selects_target}
use Rattle.fabric_state.specs.declared.State.{State}
use Rattle.fabric_state.specs.Records.{transfer_at, late_at}
use Rattle.fabric_state.specs.Soundness.{requests}
use Rattle.fabric_state.specs.Posting.{Request, transfer_of, wrong_beats, unaligned, wrong_lanes, unmapped, passes_end}
use Rattle.fabric_state.specs.Posting.{transfer_refusal_by, transfer_refusal}
use Rattle.fabric_state.proofs.RequestLaws.{requests_of}
use Rattle.wait_turns.specs.Waits as waits
use Rattle.wait_turns.proofs.AccessLaws.{single_access_plain, single_access_late}
use Rattle.theorem_history.specs.Claim.{slave_for}
use Rattle.theorem_history.proofs.OneClock.PairFigures.{single_of, longest_of, most_some}
use Rattle.theorem_history.proofs.Histories.OnePost.{Taken}

-- the beats of the transfer with a grants to come after it
unfoldable pub beats_for : Board → ℕ → ℕ → ℕ → ℕ
beats_for b s j zero = waits.most_beats (master_at b j) (slave_at b s)
beats_for b s j (suc a) = 1

-- in the direction of the longer wait; a single at a slave with latency is a write
unfoldable pub writes : Slave → ℕ → Bool
writes sl zero = leb sl.read_wait sl.write_wait
writes sl (suc a) = cond (eqb sl.latency 0) (leb sl.read_wait sl.write_wait) true

-- what master j posts at slave s, with a grants to come after it
unfoldable pub request_for : Board → ℕ → ℕ → ℕ → Request
request_for b s j a = record {
  master = j;
  write = writes (slave_at b s) a;
  address = (slave_at b s).base;
  lanes = all_lanes (master_at b j).width;
  beats = beats_for b s j a;
  words = replicate (cond (writes (slave_at b s) a) (beats_for b s j a * (master_at b j).width) 0) 0;
}

unfoldable pub transfer_for : Board → ℕ → ℕ → ℕ → Transfer
transfer_for b s j a = transfer_of (request_for b s j a)

words_right : (b : Board) (s j a : ℕ) → length (request_for b s j a).words
    ≡ cond (request_for b s j a).write ((request_for b s j a).beats * (master_at b j).width) 0
unfolding request_for
words_right b s j a = length-replicate (cond (writes (slave_at b s) a) (beats_for b s j a * (master_at b j).width) 0) 0

-- a full word is a legal one
full_lanes : (w : ℕ) → member w widths ≡ true → legal_lanes w (all_lanes w) ≡ true
unfolding legal_lanes adjacent lowest ones ones_in count_trailing_zeros member
full_lanes w e = member_each (λ x. legal_lanes x (all_lanes x) ≡ true) w widths (refl, (refl, (refl, (refl, tt)))) e

full_post : (w k : ℕ) → member w widths ≡ true → post_lanes w (all_lanes w) k ≡ true
unfolding post_lanes
full_post w k e = rw (full_lanes w e, eq-eqb (all_lanes w) (all_lanes w) refl) (or-true (leb k 1))

-- what passes 13 to 17
not_refused : (b : Board) (j s : ℕ) (t : Transfer) → 1 ≤ t.beats → t.beats ≤ (master_at b j).burst
    → t.address % (master_at b j).width ≡ 0 → post_lanes (master_at b j).width t.lanes t.beats ≡ true
    → target_of b j t.address ≡ s → s < b.slave_count
    → t.address + t.beats * (master_at b j).width ≤ (slave_at b s).base + (slave_at b s).span → transfer_refusal b j t ≡ 0
unfolding transfer_refusal transfer_refusal_by wrong_beats unaligned wrong_lanes unmapped passes_end
not_refused b j s t some few aligned lanes target within end =
    rw (
      ne_eqb t.beats 0 (λ q. omega arith),
      le-ltb (master_at b j).burst t.beats few,
      eq-eqb (t.address % (master_at b j).width) 0 aligned,
      lanes,
      target,
      ne_eqb s b.slave_count (λ q. omega arith),
      le-ltb ((slave_at b s).base + (slave_at b s).span) (t.address + t.beats * (master_at b j).width) end,
    )

-- ---- its length

-- the clocks of one of its accesses
access_for : Slave → ℕ → ℕ
access_for sl zero = waits.longest_access sl
access_for sl (suc a) = waits.single_access sl

longer : (sl : Slave) (t : Transfer) → t.write ≡ leb sl.read_wait sl.write_wait
    → 1 + wait_of sl t ≡ waits.longest_access sl
unfolding wait_of waits.longest_access
longer sl t e = rw e (go (leb sl.read_wait sl.write_wait) refl)
  where
    go : (c : Bool) → leb sl.read_wait sl.write_wait ≡ c
        → 1 + cond c sl.write_wait sl.read_wait ≡ 1 + max sl.read_wait sl.write_wait
    go true q = omega (arith, leb-true sl.read_wait sl.write_wait q)
    go false q = omega (arith, leb-false sl.read_wait sl.write_wait q)

wait_is : (sl : Slave) (t : Transfer) (a : ℕ) → t.write ≡ writes sl a → 1 + wait_of sl t ≡ access_for sl a
unfolding wait_of writes access_for
wait_is sl t zero e = longer sl t e
wait_is sl t (suc a) e = go (ℕ_discrete sl.latency 0)
  where
    go : Dec (sl.latency ≡ 0) → 1 + wait_of sl t ≡ waits.single_access sl
    go (yes z) = longer sl t (e ∙ rw (eq-eqb sl.latency 0 z)) ∙ sym (single_access_plain sl z)
    go (no z) = let w : t.write ≡ true = e ∙ rw (ne_eqb sl.latency 0 z) in rw (w, single_access_late sl z)

-- a single has no latency behind it
single_plain : (sl : Slave) (t : Transfer) (a : ℕ) → 1 ≤ a → t.write ≡ writes sl a → latency_of sl t ≡ 0
unfolding latency_of writes
single_plain sl t zero h e = absurd (omega arith)
single_plain sl t (suc a) h e = go (ℕ_discrete sl.latency 0)
  where
    go : Dec (sl.latency ≡ 0) → cond t.write 0 sl.latency ≡ 0
    go (yes z) = rw z (none t.write)
      where
        none : (c : Bool) → ◌≡◌ {A = ℕ} (cond c 0 0) 0
        none true = refl
        none false = refl
    go (no z) = let w : t.write ≡ true = e ∙ rw (ne_eqb sl.latency 0 z) in rw w

module _ (b : Board) (legal : Legal b) (s : ℕ) (hs : s < b.slave_count) (j : ℕ) (hj : j < b.master_count) where
  -- every lane is enabled, so that no access is left out
  long_is : (a : ℕ) → own_length (master_at b j) (slave_at b s) (transfer_for b s j a)
      ≡ beats_for b s j a * ratio (master_at b j) (slave_at b s) * access_for (slave_at b s) a
  unfolding own_length transfer_for request_for
  long_is a =
      ap (λ (x : ℕ). x * (1 + wait_of (slave_at b s) (transfer_for b s j a)))
      (accesses_full (master_at b j) (slave_at b s) (transfer_for b s j a)
      (legal_widths (master_at b j) (slave_at b s) (legal.master j hj) (legal.slave s hs)) refl)
      ∙ ap (λ (x : ℕ). beats_for b s j a * ratio (master_at b j) (slave_at b s) * x)
      (wait_is (slave_at b s) (transfer_for b s j a) a refl)

  pub last_serve : (a : ℕ) → a ≡ 0
      → own_length (master_at b j) (slave_at b s) (transfer_for b s j a) ≡ longest_of b s j
  unfolding waits.serve beats_for access_for
  last_serve zero e = long_is zero
  last_serve (suc a) e = absurd (omega arith)

  pub first_single : (a : ℕ) → 1 ≤ a
      → (own_length (master_at b j) (slave_at b s) (transfer_for b s j a) ≡ single_of b s j)
      × ((transfer_for b s j a).beats ≤ 1)
  unfolding waits.single beats_for transfer_for request_for access_for
  first_single zero h = absurd (omega arith)
  first_single (suc a) h = (
    long_is (suc a)
        ∙ ap (λ (x : ℕ). x * waits.single_access (slave_at b s)) (one-mul (ratio (master_at b j) (slave_at b s))),
    le_refl 1,
  )

  pub first_plain : (a : ℕ) → 1 ≤ a → latency_of (slave_at b s) (transfer_for b s j a) ≡ 0
  unfolding transfer_for request_for
  first_plain a h = single_plain (slave_at b s) (transfer_for b s j a) a h refl

-- ---- it is not refused

module _
    (b : Board) (legal : Legal b) (s : ℕ) (hs : s < b.slave_count) (j : ℕ) (hj : j < b.master_count)
    (has : 1 ≤ shares_at b j s)
  where
    base_selects : selects b j (slave_at b s).base s ≡ true
    base_selects =
        let p = span_bound (slave_at b s).span (legal.slave s hs).span in
        selects_of b legal j (slave_at b s).base s
        (record { within = hs; shares = has; inside = record { low = le_refl _; high = omega arith } })

    -- it is for slave s
    pub request_slave : (a : ℕ) → slave_for b (request_for b s j a) ≡ s
    unfolding slave_for request_for
    request_slave a = selects_target b legal j (slave_at b s).base s base_selects

    beats_fit : (a : ℕ) → (1 ≤ beats_for b s j a) × (beats_for b s j a ≤ (master_at b j).burst)
        × (beats_for b s j a * (master_at b j).width ≤ (slave_at b s).span)
    unfolding beats_for waits.most_beats
    beats_fit zero =
        let ma = master_at b j in
        let sl = slave_at b s in (
          most_some b legal s j hs hj,
          min-le_left ma.burst (sl.span / ma.width),
          le_trans (mul-le-mul (min-le_right ma.burst (sl.span / ma.width)) (le_refl ma.width))
              (div-mul-le_self sl.span ma.width),
        )
    beats_fit (suc a) =
        let w = width_bound (master_at b j).width (legal.master j hj).width in
        let u = burst_bound (master_at b j).burst (legal.master j hj).burst in
        let n = span_bound (slave_at b s).span (legal.slave s hs).span in
        (le_refl 1, u.0, omega (arith, one-mul (master_at b j).width))

    request_fits : (a : ℕ) → transfer_refusal b j (transfer_for b s j a) ≡ 0
    unfolding transfer_for request_for
    request_fits a =
        let f = beats_fit a in
        let n = legal.slave s hs in
        let w = (legal.master j hj).width in
        not_refused b j s (transfer_for b s j a) f.0 f.1
        (base_aligned (slave_at b s).base (slave_at b s).span (master_at b j).width n.aligned n.span w)
        (full_post (master_at b j).width (beats_for b s j a) w)
        (selects_target b legal j (slave_at b s).base s base_selects) hs (omega (arith, f.2))

    -- its post is taken where j holds nothing
    pub request_taken : (st : State) (a : ℕ) → (transfer_at st j).held ≡ false → Taken b st (request_for b s j a)
    unfolding request_for transfer_for
    request_taken st a free =
        record { master = hj; free = free; fits = request_fits a; words = words_right b s j a }

    -- and who holds it asks
    pub request_asks : (st : State) (a : ℕ) → late_at st j ≡ 0 → transfer_at st j ≡ transfer_for b s j a
        → requests b st s j ≡ true
    unfolding transfer_for request_for
    request_asks st a z e = requests_of b st s j z (ap (λ (t : Transfer). t.held) e) (rw e base_selects)
