-- No pair of a legal board has larger figures than `most_wait` and `most_serve`, and these fit what holds them.
-- Assumes nothing.
use mathlib.Core.Path.{◌≡◌, refl}
use mathlib.Core.Bool.{Bool, true, false, cond, not, ◌&&◌}
use Prim.Native.Nat.{ℕ, zero, suc, ◌+◌, ◌*◌, ◌≤◌, ◌<◌}
use native.Mathlib.Decide.{ℕ_discrete}
use native.Mathlib.Nat.{suc-mul}
use native.Mathlib.Omega.{arith}
use lib.Dec.{eqb}
use borrow.Author.Tests.{eq-eqb}
use Rattle.common_laws.specs.Lists.{sum}
use Rattle.description_board.specs.declared.Board.{Board}
use Rattle.description_board.specs.Records.{master_at, slave_at, shares_at, connected}
use Rattle.description_board.specs.Legal.{Legal}
use Rattle.wait_turns.specs.Waits.{longest_access, single_access, turn, other_turn, turns_of, quoted_wait, serve_of}
use Rattle.wait_turns.specs.Largest.{most_serve, most_wait, Most, MostFit}
use Rattle.wait_turns.proofs.SumLaws.{sum_le}
use Rattle.wait_turns.proofs.FigureBounds.{serve_le, turn_le, shares_le, v_le, a_le}

-- a sum in which one number is 0
sum_but : (f : ℕ → ℕ) (t m : ℕ) → f m ≡ 0 → (n : ℕ) → m < n → ((i : ℕ) → i < n → f i ≤ t) → sum f n + t ≤ n * t
unfolding sum
sum_but f t m z zero h l = absurd (omega arith)
sum_but f t m z (suc n) h l = rw (suc-mul n t) (go (ℕ_discrete n m) (λ k. sum_but f t m z n k (λ i d. l i (omega arith))))
  where
    below : sum f n ≤ n * t
    below = sum_le f t n (λ i d. l i (omega arith))

    go : Dec (n ≡ m) → (m < n → sum f n + t ≤ n * t) → sum f n + f n + t ≤ n * t + t
    go (yes e) rest = let none : f n ≡ 0 = rw e z in omega (arith, none, below)
    go (no e) rest = omega (arith, rest (omega arith), l n (omega arith))

module _ (b : Board) (legal : Legal b) (s : ℕ) (hs : s < b.slave_count) (m : ℕ) (hm : m < b.master_count) where
  abbrev a : ℕ
  a = single_access (slave_at b s)

  abbrev v : ℕ
  v = longest_access (slave_at b s)

  own_none : other_turn b a v m s m ≡ 0
  unfolding other_turn
  own_none = rw (eq-eqb m m refl) (go (connected b m s))
    where
      go : (c : Bool) → cond (c && false) (turn (master_at b m) (slave_at b s) (shares_at b m s) a v) 0 ≡ 0
      go true = refl
      go false = refl

  other_le : (k : ℕ) → k < b.master_count → other_turn b a v m s k ≤ 99 * (8 * 256) + 64 * 8 * 256
  unfolding other_turn
  other_le k h = go (connected b k s && not (eqb k m))
    where
      go : (c : Bool) → cond c (turn (master_at b k) (slave_at b s) (shares_at b k s) a v) 0 ≤ 99 * (8 * 256) + 64 * 8 * 256
      go true =
          turn_le (master_at b k) (legal.master k h) (slave_at b s) a v 256 (a_le b legal s hs) (v_le b legal s hs) 99
          (shares_at b k s) (omega (arith, shares_le b legal s hs k h))
      go false = omega arith

  pub figures_most : Most b m s
  unfolding quoted_wait turns_of serve_of most_wait most_serve
  figures_most = record {
    wait =
        omega (
          arith,
          sum_but (other_turn b a v m s) (99 * (8 * 256) + 64 * 8 * 256) m own_none b.master_count hm other_le,
          legal.few_masters,
        );
    serve = serve_le (master_at b m) (legal.master m hm) (slave_at b s) v 256 (v_le b legal s hs);
  }

pub most_fit : MostFit
unfolding most_wait most_serve
most_fit = record { wait = (omega arith, omega arith); serve = (omega arith, omega arith) }
