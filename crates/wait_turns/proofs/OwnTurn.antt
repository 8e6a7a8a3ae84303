-- A wait is the turns at the slave without the own one.
-- Assumes nothing.
use mathlib.Core.Path.{◌≡◌, refl}
use mathlib.Core.Bool.{Bool, true, false, cond, not, ◌&&◌}
use Prim.Native.Nat.{ℕ, ◌+◌, ◌<◌}
use lib.Dec.{eqb}
use borrow.Author.Tests.{eq-eqb, ne_eqb}
use Rattle.description_board.specs.declared.Board.{Board}
use Rattle.description_board.specs.Records.{master_at, slave_at, shares_at, connected}
use Rattle.wait_turns.specs.Waits.{turn, other_turn, turns_of}
use Rattle.wait_turns.specs.Sums.{turn_at, turns_at}
use Rattle.wait_turns.proofs.SumLaws.{sum_without}

module _ (b : Board) (a v s : ℕ) where
  -- where master m waits, its own turn is none, and every other the one that it is for all
  own_none : (m : ℕ) → other_turn b a v m s m ≡ 0
  unfolding other_turn
  own_none m = go (connected b m s) (eqb m m) (eq-eqb m m refl)
    where
      go : (t own : Bool) → own ≡ true → cond (t && not own) (turn (master_at b m) (slave_at b s) (shares_at b m s) a v) 0 ≡ 0
      go true own e = rw e
      go false own e = refl

  other_at : (m k : ℕ) → (k ≡ m → ⊥) → other_turn b a v m s k ≡ turn_at b a v s k
  unfolding other_turn turn_at
  other_at m k d = go (connected b k s) (eqb k m) (ne_eqb k m d)
    where
      go : (t own : Bool) → own ≡ false → cond (t && not own) (turn (master_at b k) (slave_at b s) (shares_at b k s) a v) 0
          ≡ cond t (turn (master_at b k) (slave_at b s) (shares_at b k s) a v) 0
      go true own e = rw e
      go false own e = refl

  -- for any a and v: the turns of the others and the own turn are the turns of all
  pub others_and_own : (m : ℕ) → m < b.master_count → turns_of b a v m s + turn_at b a v s m ≡ turns_at b a v s
  unfolding turns_of turns_at
  others_and_own m h = sum_without (turn_at b a v s) (other_turn b a v m s) m b.master_count h (own_none m) (other_at m)
