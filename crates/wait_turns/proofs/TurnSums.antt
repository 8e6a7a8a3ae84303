-- The turns at a slave, one master after another, and the figures by them; what a legal board gives of its pairs.
-- Assumes nothing.
use mathlib.Core.Path.{◌≡◌, refl, ap, ◌∙◌}
use mathlib.Core.Bool.{Bool, true, false, cond, ◌&&◌}
use Prim.Native.Nat.{ℕ, ◌+◌, ◌≤◌, ◌<◌}
use native.Mathlib.Numerals.{add-one}
use native.Mathlib.Omega.{arith}
use lib.Dec.{ltb}
use borrow.Author.Tests.{lt-ltb}
use Rattle.common_laws.specs.Lists.{sum}
use Rattle.description_board.specs.declared.Master.{Master}
use Rattle.description_board.specs.Records.{Slave}
use Rattle.description_board.specs.declared.Board.{Board}
use Rattle.description_board.specs.Records.{master_at, slave_at, shares_at, connected}
use Rattle.description_board.specs.Legal.{LegalSlave}
use Rattle.wait_turns.specs.declared.Turns.{Turns}
use Rattle.wait_turns.specs.Waits.{longest_access, single_access, serve, turn, turns_of, quoted_wait, serve_of}
use Rattle.wait_turns.specs.Sums.{turn_at, turns_at}
use Rattle.wait_turns.specs.Code.Pairs.{LegalBoth, SlaveOf, PairOf, figures_of, slave_turns}
use Rattle.wait_turns.proofs.FigureBounds.{shares_le}
use Rattle.wait_turns.proofs.OwnTurn.{others_and_own}

-- a legal slave's record, and a pair of records with it
module _ {b : Board} {sl : Slave} {s : ℕ} (x : SlaveOf b sl s) where
  pub slave_legal : LegalSlave sl
  slave_legal = rw x.same (x.legal.slave s x.known)

  pub both_legal : (m : ℕ) {ma : Master} → m < b.master_count → ma ≡ master_at b m → LegalBoth ma sl
  both_legal m h e = record { master = rw e (x.legal.master m h); slave = slave_legal }

  pub shares_legal : (k : ℕ) {n : ℕ} → k < b.master_count → n ≡ shares_at b k s → n ≤ 100
  shares_legal k h f = rw f (shares_le b x.legal s x.known k h)

-- slave s of a pair, as it was read
pub slave_of_lem : {b : Board} {m s : ℕ} {sl : Slave} → PairOf b m s → sl ≡ slave_at b s → SlaveOf b sl s
slave_of_lem p e = record { legal = p.legal; known = p.slave; same = e }

-- one master's part of the sum
module _ (b : Board) (a v s k : ℕ) {n : ℕ} (e : n ≡ shares_at b k s) where
  pub turn_none : n ≡ 0 → 0 ≡ turn_at b a v s k
  unfolding turn_at connected
  turn_none z = rw (← e, z) (go (ltb s b.slave_count))
    where
      go : (t : Bool) → 0 ≡ cond (t && false) (turn (master_at b k) (slave_at b s) 0 a v) 0
      go true = refl
      go false = refl

  pub turn_some : {sl : Slave} {ma : Master} {r : ℕ} → SlaveOf b sl s → (n ≡ 0 → ⊥) → ma ≡ master_at b k → r ≡ turn ma sl n a v
      → r ≡ turn_at b a v s k
  unfolding turn_at connected
  turn_some x some f q =
      rw (lt-ltb s b.slave_count x.known, ← e, lt-ltb 0 n (omega arith), ← f, ← x.same) q

-- the sum of the first k
module _ (b : Board) (a v s : ℕ) where
  pub turns_none : 0 ≡ sum (turn_at b a v s) 0
  unfolding sum
  turns_none = refl

  pub turns_more : (k : ℕ) {q t : ℕ} → q ≡ sum (turn_at b a v s) k → t ≡ turn_at b a v s k → q + t ≡ sum (turn_at b a v s) (k + 1)
  unfolding sum
  turns_more k e f = rw (add-one, e, f)

  pub turns_all : {q k : ℕ} → q ≡ sum (turn_at b a v s) k → k ≡ b.master_count → q ≡ turns_at b a v s
  unfolding turns_at
  turns_all e f = e ∙ ap (sum (turn_at b a v s)) f

-- the clocks of a single's access, v and the turns of a slave
pub turns_of_slave : (b : Board) (s : ℕ) {sl : Slave} {a v all : ℕ} → sl ≡ slave_at b s → a ≡ single_access sl → v ≡ longest_access sl
    → all ≡ turns_at b a v s → record { single = a; v = v; sum = all } ≡ slave_turns b s
unfolding slave_turns
turns_of_slave b s e d f g = rw (g, d, f, e)

-- both figures of a pair, by the turns of its slave
module _ (b : Board) (m s : ℕ) {t : Turns} (e : t ≡ slave_turns b s) where
  single_is : t.single ≡ single_access (slave_at b s)
  unfolding slave_turns
  single_is = rw e

  v_is : t.v ≡ longest_access (slave_at b s)
  unfolding slave_turns
  v_is = rw e

  sum_is : t.sum ≡ turns_at b t.single t.v s
  unfolding slave_turns
  sum_is = rw e

  -- the own turn is one of those added up
  pub own_within : m < b.master_count → {own : ℕ} → own ≡ turn_at b t.single t.v s m → own ≤ t.sum
  own_within h f = omega (arith, f, sum_is, others_and_own b t.single t.v s m h)

  pub figures_at : m < b.master_count → {sl : Slave} {ma : Master} {own wait serves : ℕ} → sl ≡ slave_at b s
      → own ≡ turn_at b t.single t.v s m → wait + own ≡ t.sum → ma ≡ master_at b m → serves ≡ serve ma sl t.v
      → record { wait = wait; serve = serves } ≡ figures_of b m s
  unfolding figures_of quoted_wait serve_of
  figures_at h {wait = wait} g f left q r =
      let w : wait ≡ turns_of b t.single t.v m s = omega (arith, f, left, sum_is, others_and_own b t.single t.v s m h) in
      rw (w, r, q, g, single_is, v_is)
