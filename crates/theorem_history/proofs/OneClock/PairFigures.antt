-- The figures of a pair (rules 5.1 to 5.7) as theorem_bounds takes them, and how long an accepted transfer lasts at the most.
-- Assumes nothing.
use mathlib.Core.Path.{◌≡◌, refl, sym}
use mathlib.Core.Bool.{Bool, true, false, cond, not, ◌&&◌}
use Prim.Native.Nat.{ℕ, zero, suc, ◌+◌, ◌-◌, ◌*◌, ◌/◌, ◌≤◌, ◌<◌, max}
use native.Mathlib.Nat.{mul-le-mul, one-mul, le-div_iff_mul-le}
use native.Mathlib.Decide.{ℕ_discrete}
use native.Mathlib.Omega.{arith}
use lib.Dec.{ltb, eqb}
use borrow.Author.Tests.{lt-ltb}
use Rattle.common_laws.proofs.FillLaws.{sum_same}
use Rattle.description_board.specs.declared.Master.{Master}
use Rattle.description_board.specs.Records.{Slave}
use Rattle.description_board.specs.declared.Board.{Board}
use Rattle.description_board.specs.Records.{master_at, slave_at, shares_at, connected}
use Rattle.description_board.specs.Legal.{Legal}
use Rattle.description_board.proofs.RuleLaws.{width_bound, burst_bound, span_bound}
use Rattle.fabric_transfer.specs.declared.Transfer.{Transfer}
use Rattle.fabric_transfer.specs.Alignment.{ratio}
use Rattle.fabric_transfer.specs.Accesses.{wait_of, latency_of, own_length}
use Rattle.fabric_transfer.proofs.AccessLaws.{accesses_le}
use Rattle.fabric_state.proofs.RequestLaws.{Accepted}
use Rattle.wait_turns.specs.Waits as waits
use Rattle.wait_turns.proofs.AccessLaws.{single_access_plain, single_access_late}
use Rattle.theorem_bounds.proofs.Order.{between}
use Rattle.theorem_bounds.proofs.Credit.{credit, credit_zero, credit_suc}
use Rattle.theorem_bounds.proofs.Potential.{quoted, pot}

-- the wait of a direction is no longer than the longer one
wait_longest : (sl : Slave) (t : Transfer) → 1 + wait_of sl t ≤ waits.longest_access sl
unfolding wait_of waits.longest_access
wait_longest sl t = go t.write
  where
    go : (c : Bool) → 1 + cond c sl.write_wait sl.read_wait ≤ 1 + max sl.read_wait sl.write_wait
    go true = omega arith
    go false = omega arith

-- a burst that fits the slave has no more beats than n
beats_most : (ma : Master) (sl : Slave) (k : ℕ) → 1 ≤ ma.width → k ≤ ma.burst → k * ma.width ≤ sl.span
    → k ≤ waits.most_beats ma sl
unfolding waits.most_beats
beats_most ma sl k h l f = let d : k ≤ sl.span / ma.width = (le-div_iff_mul-le h).1 f in omega arith

-- the own length of a transfer of k beats
long_serve : (ma : Master) (sl : Slave) (t : Transfer) → t.beats ≤ waits.most_beats ma sl
    → own_length ma sl t ≤ waits.serve ma sl (waits.longest_access sl)
unfolding own_length waits.serve
long_serve ma sl t h = mul-le-mul (accesses_le ma sl t (waits.most_beats ma sl) h) (wait_longest sl t)

-- an accepted transfer lasts no longer than the longest
pub accepted_long : (b : Board) → Legal b → (j : ℕ) → j < b.master_count → (t : Transfer) (s : ℕ) → Accepted b j t s
    → own_length (master_at b j) (slave_at b s) t ≤ waits.serve (master_at b j) (slave_at b s) (waits.longest_access (slave_at b s))
accepted_long b legal j hj t s a =
    let w = width_bound (master_at b j).width (legal.master j hj).width in
    let f : t.beats * (master_at b j).width ≤ (slave_at b s).span = omega (arith, a.low, a.end) in
    long_serve (master_at b j) (slave_at b s) t (beats_most (master_at b j) (slave_at b s) t.beats w.0 a.few f)

-- of a transfer with no latency behind it an access takes no longer than that of a single: a read, where the slave has none
wait_single : (sl : Slave) (t : Transfer) → latency_of sl t ≡ 0 → 1 + wait_of sl t ≤ waits.single_access sl
unfolding latency_of wait_of
wait_single sl t none = go (ℕ_discrete sl.latency 0) t.write refl
  where
    go : Dec (sl.latency ≡ 0) → (c : Bool) → t.write ≡ c → 1 + wait_of sl t ≤ waits.single_access sl
    go (yes z) c e = rw (single_access_plain sl z) (wait_longest sl t)
    go (no z) true e = rw (single_access_late sl z, e) (omega arith)
    go (no z) false e = absurd (z (rw e at none))

pub long_single : (ma : Master) (sl : Slave) (t : Transfer) → latency_of sl t ≡ 0 → t.beats ≤ 1
    → own_length ma sl t ≤ waits.single ma sl (waits.single_access sl)
unfolding own_length waits.single
long_single ma sl t none h =
    mul-le-mul (omega (arith, accesses_le ma sl t 1 h, one-mul (ratio ma sl))) (wait_single sl t none)

-- ---- the figures of master j at slave s

abbrev pub shares_of : Board → ℕ → ℕ → ℕ
shares_of b s j = shares_at b j s

-- the clocks of a single before the last transfer of a turn, and of the longest transfer (rules 5.5, 5.6)
abbrev pub single_of : Board → ℕ → ℕ → ℕ
single_of b s j = waits.single (master_at b j) (slave_at b s) (waits.single_access (slave_at b s))

abbrev pub longest_of : Board → ℕ → ℕ → ℕ
longest_of b s j = waits.serve (master_at b j) (slave_at b s) (waits.longest_access (slave_at b s))

-- the clocks that r of its grants last at the most, and its turn (rule 5.6)
abbrev pub credit_of : Board → ℕ → ℕ → ℕ → ℕ
credit_of b s j r = credit (single_of b s j) (longest_of b s j) r

abbrev pub turn_of : Board → ℕ → ℕ → ℕ
turn_of b s j = credit_of b s j (shares_of b s j)

-- the turns of the masters between o and m
abbrev pub turns_between : Board → ℕ → ℕ → ℕ → ℕ
turns_between b s o m = between (turn_of b s) b.master_count o m

-- what master m may have to wait for, where o owns the slave with r grants, and l clocks of its transfer are left
abbrev pub pot_of : Board → ℕ → ℕ → ℕ → ℕ → ℕ → ℕ
pot_of b s m o r l = pot b.master_count (shares_of b s) (single_of b s) (longest_of b s) m o r l

-- the longest transfer has a beat at least
pub most_some : (b : Board) → Legal b → (s j : ℕ) → s < b.slave_count → j < b.master_count
    → 1 ≤ waits.most_beats (master_at b j) (slave_at b s)
most_some b legal s j hs hj =
    let w = width_bound (master_at b j).width (legal.master j hj).width in
    let u = burst_bound (master_at b j).burst (legal.master j hj).burst in
    let n = span_bound (slave_at b s).span (legal.slave s hs).span in
    beats_most (master_at b j) (slave_at b s) 1 w.0 u.0 (omega (arith, one-mul (master_at b j).width))

module _ (b : Board) (s : ℕ) (hs : s < b.slave_count) where
  -- the turn of another master is its credit of all shares
  other_turn_lem : (m j : ℕ)
      → waits.other_turn b (waits.single_access (slave_at b s)) (waits.longest_access (slave_at b s)) m s j
      ≡ cond (eqb j m) 0 (turn_of b s j)
  unfolding waits.other_turn connected waits.turn
  other_turn_lem m j = rw (lt-ltb s b.slave_count hs) (go (shares_at b j s) (eqb j m))
    where
      go : (a : ℕ) (c : Bool)
          → cond (ltb 0 a && not c) ((a - 1) * single_of b s j + longest_of b s j) 0 ≡ cond c 0 (credit_of b s j a)
      go zero true = refl
      go zero false = sym (credit_zero (single_of b s j) (longest_of b s j) 0 refl)
      go (suc a) true = rw (lt-ltb 0 (suc a) (omega arith))
      go (suc a) false =
          let e : suc a - 1 ≡ a = omega arith in
          rw (lt-ltb 0 (suc a) (omega arith), e, credit_suc)

  -- rule 5.7: what the turns of the other masters add up to, as theorem_bounds counts them
  pub wait_quoted : (m : ℕ) → waits.quoted_wait b m s ≡ quoted b.master_count (shares_of b s) (single_of b s) (longest_of b s) m
  unfolding waits.quoted_wait waits.turns_of
  wait_quoted m = sum_same _ _ b.master_count (λ j h. other_turn_lem m j)
