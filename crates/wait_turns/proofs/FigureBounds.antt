-- How large the figures of a pair can be, and those of a legal board.
-- Assumes nothing.
use mathlib.Core.Path.{◌≡◌, refl}
use mathlib.Core.Bool.{Bool, true, false, cond}
use Prim.Native.Nat.{ℕ, ◌+◌, ◌*◌, ◌^◌, ◌≤◌, ◌<◌}
use native.Mathlib.Nat.{add-le-add}
use native.Mathlib.Omega.{arith}
use lib.Dec.{eqb}
use borrow.Author.Tests.{eqb-true, eqb-false}
use Rattle.common_laws.specs.Lists.{sum}
use Rattle.common_laws.proofs.Arithmetic.{product_le}
use Rattle.description_board.specs.declared.Master.{Master}
use Rattle.description_board.specs.Records.{Slave}
use Rattle.description_board.specs.declared.Board.{Board}
use Rattle.description_board.specs.Records.{master_at, slave_at, shares_at, connected}
use Rattle.description_board.specs.Legal.{LegalMaster, Legal}
use Rattle.description_board.proofs.RuleLaws.{width_bound, burst_bound}
use Rattle.fabric_transfer.specs.Alignment.{ratio}
use Rattle.fabric_transfer.proofs.AlignmentLaws.{ratio_le}
use Rattle.wait_turns.specs.Waits.{longest_access, single_access, most_beats, single, serve, turn, quoted_wait, serve_of}
use Rattle.wait_turns.specs.Sums.{turn_at, turns_at, Once}
use Rattle.wait_turns.proofs.SumLaws.{sum_le}
use Rattle.wait_turns.proofs.AccessLaws.{single_within}
use Rattle.wait_turns.proofs.OwnTurn.{others_and_own}

-- a legal master: a width is at most 8, a burst 64
module _ (ma : Master) (legal : LegalMaster ma) (sl : Slave) where
  pub ratio_small : ratio ma sl ≤ 8
  ratio_small = ratio_le ma sl 8 (omega arith) (width_bound ma.width legal.width).1

  pub accesses_small : most_beats ma sl * ratio ma sl ≤ 64 * 8
  unfolding most_beats
  accesses_small = product_le _ _ 64 8 (omega (arith, (burst_bound ma.burst legal.burst).1)) ratio_small

  -- for accesses of at most l clocks
  module _ (v l : ℕ) (hv : v ≤ l) where
    pub single_le : single ma sl v ≤ 8 * l
    unfolding single
    single_le = product_le _ _ 8 l ratio_small hv

    pub serve_le : serve ma sl v ≤ 64 * 8 * l
    unfolding serve
    serve_le = product_le _ _ (64 * 8) l accesses_small hv

  -- with at most n singles before the longest transfer
  pub turn_le : (a v l : ℕ) → a ≤ l → v ≤ l → (n shares : ℕ) → shares ≤ n + 1
      → turn ma sl shares a v ≤ n * (8 * l) + 64 * 8 * l
  unfolding turn
  turn_le a v l ha hv n shares h =
      add-le-add (product_le _ _ n (8 * l) (omega arith) (single_le a l ha)) (serve_le v l hv)

-- a legal board: an access lasts at most 256 clocks, a pair has at most 100 shares
module _ (b : Board) (legal : Legal b) (s : ℕ) (hs : s < b.slave_count) where
  pub v_le : longest_access (slave_at b s) ≤ 256
  unfolding longest_access
  v_le = let l = legal.slave s hs in omega (arith, l.read_wait, l.write_wait)

  pub a_le : single_access (slave_at b s) ≤ 256
  a_le = omega (arith, single_within (slave_at b s), v_le)

  pub shares_le : (k : ℕ) → k < b.master_count → shares_at b k s ≤ 100
  shares_le k h = go (eqb (shares_at b k s) 0) refl
    where
      go : (t : Bool) → eqb (shares_at b k s) 0 ≡ t → shares_at b k s ≤ 100
      go true e = omega (arith, eqb-true (shares_at b k s) 0 e)
      go false e =
          let i : 16 * k + s < 128 = omega (arith, legal.few_masters, legal.few_slaves) in
          omega (arith, (legal.shares (16 * k + s) i (eqb-false _ _ e)).0)

  -- for accesses of at most l clocks: one turn, and the first k
  module _ (a v l : ℕ) (ha : a ≤ l) (hv : v ≤ l) where
    at_le : (k : ℕ) → k < b.master_count → turn_at b a v s k ≤ 99 * (8 * l) + 64 * 8 * l
    unfolding turn_at
    at_le k h = go (connected b k s)
      where
        go : (t : Bool) → cond t (turn (master_at b k) (slave_at b s) (shares_at b k s) a v) 0 ≤ 99 * (8 * l) + 64 * 8 * l
        go true =
            turn_le (master_at b k) (legal.master k h) (slave_at b s) a v l ha hv 99 (shares_at b k s) (omega (arith, shares_le k h))
        go false = omega arith

    pub turns_le : (k : ℕ) → k ≤ b.master_count → sum (turn_at b a v s) k ≤ k * (99 * (8 * l) + 64 * 8 * l)
    turns_le k h = sum_le (turn_at b a v s) (99 * (8 * l) + 64 * 8 * l) k (λ i d. at_le i (omega arith))

  module _ (m : ℕ) (hm : m < b.master_count) where
    -- a wait has at most 7 digits
    pub wait_small : quoted_wait b m s < 10 ^ 7
    unfolding quoted_wait turns_at
    wait_small =
        let a = single_access (slave_at b s) in
        let v = longest_access (slave_at b s) in
        omega (
          arith,
          others_and_own b a v s m hm,
          turns_le a v 256 a_le v_le b.master_count (omega arith),
          legal.few_masters,
        )

    -- a serve 6
    pub serve_small : serve_of b m s < 10 ^ 6
    unfolding serve_of
    serve_small =
        omega (arith, serve_le (master_at b m) (legal.master m hm) (slave_at b s) (longest_access (slave_at b s)) 256 v_le)

  -- the turns at a slave, added up once
  pub turns_once : Once b s
  unfolding quoted_wait turns_at
  turns_once = record {
    fits = λ a v g h.
        omega (
          arith,
          turns_le a v 4294967296 (omega arith) (omega arith) b.master_count (omega arith),
          legal.few_masters,
        );
    others = λ a v. others_and_own b a v s;
    waits = others_and_own b (single_access (slave_at b s)) (longest_access (slave_at b s)) s;
  }
