-- A pair, its rank, and a connected one (rules 1.4, 1.8, 7.19, 7.21).
-- Assumes nothing.
use mathlib.Core.Path.{◌≡◌, refl}
use mathlib.Core.Bool.{Bool, true, false, ◌&&◌, ◌||◌}
use Prim.Native.Nat.{ℕ, ◌+◌, ◌*◌, ◌/◌, ◌%◌, ◌≤◌, ◌<◌}
use native.Mathlib.Omega.{arith}
use lib.Dec.{ltb, eqb}
use borrow.Author.Tests.{ltb-true, ltb-false, lt-ltb, le-ltb, eqb-true, eqb-false}
use Rattle.common_laws.proofs.Tests.{both}
use Rattle.description_board.specs.declared.Master.{Master}
use Rattle.description_board.specs.Records.{Slave}
use Rattle.description_board.specs.declared.Board.{Board}
use Rattle.description_board.specs.Records.{is_native, master_at, slave_at, shares_at, connected}
use Rattle.description_board.specs.Rules.{too_narrow, pair_rank}
use Rattle.description_board.specs.Legal.{Legal}

-- the slave is one of the board's, and the master has shares there
pub connected_pair : (b : Board) (m s : ℕ) → connected b m s ≡ true → (s < b.slave_count) × (1 ≤ shares_at b m s)
unfolding connected
connected_pair b m s c =
    let p = both (ltb s b.slave_count) _ c in
    (ltb-true _ _ p.0, ltb-true _ _ p.1)

pub pair_connected : (b : Board) (m s : ℕ) → s < b.slave_count → 1 ≤ shares_at b m s → connected b m s ≡ true
unfolding connected
pair_connected b m s l h = rw (lt-ltb s b.slave_count l, lt-ltb 0 (shares_at b m s) h)

-- ranks are by master, then slave
pub rank_order : (m s k t : ℕ) → s < 16 → t < 16 → ltb (pair_rank m s) (pair_rank k t) ≡ (ltb m k || (eqb m k && ltb s t))
unfolding pair_rank
rank_order m s k t hs ht = go (ltb m k) refl (eqb m k) refl (ltb s t) refl
  where
    go : (a : Bool) → ltb m k ≡ a → (b : Bool) → eqb m k ≡ b → (c : Bool) → ltb s t ≡ c
        → ltb (pair_rank m s) (pair_rank k t) ≡ (a || (b && c))
    go true p b q c r = lt-ltb (pair_rank m s) (pair_rank k t) (omega (arith, ltb-true m k p))
    go false p true q true r = lt-ltb (pair_rank m s) (pair_rank k t) (omega (arith, eqb-true m k q, ltb-true s t r))
    go false p true q false r = le-ltb (pair_rank m s) (pair_rank k t) (omega (arith, eqb-true m k q, ltb-false s t r))
    go false p false q c r =
        let other = eqb-false m k q in
        le-ltb (pair_rank m s) (pair_rank k t) (omega (arith, ltb-false m k p))

-- what 7.19 leaves: a native slave is no wider than the master
pub wide_enough : (ma : Master) (sl : Slave) → too_narrow ma sl ≡ false → is_native sl ≡ true → sl.width ≤ ma.width
unfolding too_narrow
wide_enough ma sl e n = ltb-false _ _ (rw n at e)

-- and what it says of a connected pair of a legal board
pub pair_wide : (b : Board) → Legal b → (m s : ℕ) → m < b.master_count → s < b.slave_count → 1 ≤ shares_at b m s
    → too_narrow (master_at b m) (slave_at b s) ≡ false
pair_wide b legal m s known there some =
    let few = legal.few_masters in
    let many = legal.few_slaves in
    let row : (16 * m + s) / 16 ≡ m = omega arith in
    let column : (16 * m + s) % 16 ≡ s = omega arith in
    rw (row, column) at (legal.wide (16 * m + s) (omega arith) (λ z. omega arith))
