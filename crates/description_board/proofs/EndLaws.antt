-- What is missing behind the last line of a description (rules 1.8, 7.2, 7.20): a master has a share line just where it is connected
-- to a slave, and nothing is refused at the end of a board of which every master is.
-- Assumes nothing.
use mathlib.Core.Path.{◌≡◌, refl, sym, ◌∙◌}
use mathlib.Core.Bool.{Bool, true, false, cond, not, ◌&&◌, ◌||◌, or-true, true≢false}
use mathlib.Core.Logic.{◌≢◌}
use Prim.Native.Nat.{ℕ, ◌+◌, ◌*◌, ◌≤◌, ◌<◌}
use native.Mathlib.Omega.{arith}
use lib.Dec.{ltb, eqb}
use lib.ListN.{get_or}
use borrow.Author.Count.{below_more}
use borrow.Author.Tests.{ne_eqb, eqb-false, ltb-true, ltb-false, lt-ltb, le-ltb, not-true, not-false}
use Rattle.common_laws.proofs.TableLaws.{some_at, some_here, none_all, First, first_is}
use Rattle.common_laws.proofs.Tests.{neither, passed}
use Rattle.description_board.specs.declared.Board.{Board}
use Rattle.description_board.specs.Records.{shares_at, connected}
use Rattle.description_board.specs.Rules.{has_share, without_share, end_refusal}
use Rattle.description_board.proofs.PairLaws.{connected_pair, pair_connected}

-- 2 goes first (rule 8.2): without a slave no master can have a share line
pub slave_first : (b : Board) → b.slave_count ≡ 0 → end_refusal b ≡ 2
unfolding end_refusal
slave_first b e = rw (e, or-true)

-- what the end is refused with, by the counts and the lowest master without a share line as they were found
module _ (b : Board) {m s : ℕ} (masters : m ≡ b.master_count) (slaves : s ≡ b.slave_count) where
  pub end_short : (eqb m 0 || eqb s 0) ≡ true → 2 ≡ end_refusal b
  unfolding end_refusal
  end_short h = rw (← masters, ← slaves, h)

  module _ {w : ℕ} (there : (eqb m 0 || eqb s 0) ≡ false) (lowest : w ≡ without_share b) where
    pub end_lacks : w < m → 20 ≡ end_refusal b
    unfolding end_refusal
    end_lacks h = rw (← lowest, ← masters, ← slaves, there, lt-ltb w m h)

    pub end_whole : m ≤ w → 0 ≡ end_refusal b
    unfolding end_refusal
    end_whole h = rw (← lowest, ← masters, ← slaves, there, le-ltb w m h)

-- a master has a share line just where it has a slave
pub share_slave : (b : Board) (m : ℕ) → has_share b m ≡ true → (s : ℕ) × (s < 16) × (connected b m s ≡ true)
unfolding has_share
share_slave b m e = some_at (connected b m) 16 e

pub slave_share : (b : Board) (m s : ℕ) → s < 16 → connected b m s ≡ true → has_share b m ≡ true
unfolding has_share
slave_share b m s l e = some_here (connected b m) 16 s l e

-- one by one: the slave is found, it is not, none of the 16 is
module _ (b : Board) (m s n x : ℕ) (e : n ≡ b.slave_count) (f : x ≡ shares_at b m s) where
  pub share_found : s < 16 → (ltb s n && ltb 0 x) ≡ true → true ≡ has_share b m
  unfolding connected
  share_found l h = sym (slave_share b m s l (rw (e, f) at h))

  pub share_next : (ltb s n && ltb 0 x) ≡ false → ((k : ℕ) → k < s → connected b m k ≡ false)
      → (k : ℕ) → k < s + 1 → connected b m k ≡ false
  unfolding connected
  share_next h none = below_more _ s none (rw (e, f) at h)

pub share_none : (b : Board) (m s : ℕ) → 16 ≤ s → ((k : ℕ) → k < s → connected b m k ≡ false) → false ≡ has_share b m
unfolding has_share
share_none b m s l none = sym (none_all (connected b m) 16 (λ k h. none k (omega arith)))

-- the same on a board that has the same slaves and shares
pub share_carried : (b c : Board) (m : ℕ) → m < 8 → b.slave_count ≡ c.slave_count
    → ((i : ℕ) → i < 128 → get_or b.shares i 0 ≡ get_or c.shares i 0) → has_share b m ≡ true → has_share c m ≡ true
share_carried b c m l n same e =
    let h = share_slave b m e in
    let p = connected_pair b m h.0 h.2 in
    slave_share c m h.0 h.1
    (pair_connected c m h.0 (omega (arith, n, p.0)) (omega (arith, p.1, same (16 * m + h.0) (omega (arith, h.1)))))

-- it is the first of all masters that has none
without_first : (b : Board) → First (λ m. not (has_share b m)) b.master_count (without_share b)
unfolding without_share
without_first b =
    let f : First (λ m. not (has_share b m)) _ (without_share b) = first_is (λ m. not (has_share b m)) _ in
    record {
      within = omega (arith, f.within);
      found = λ h. f.found (omega (arith, h));
      before = f.before;
    }

-- so it is below the count just where there is one
pub none_without : (b : Board) → ((m : ℕ) → m < b.master_count → has_share b m ≡ true)
    → ltb (without_share b) b.master_count ≡ false
none_without b each = go (ltb (without_share b) b.master_count) refl
  where
    go : (c : Bool) → ltb (without_share b) b.master_count ≡ c → c ≡ false
    go true e =
        let l = ltb-true _ _ e in
        let lacks = not-true _ ((without_first b).found l) in
        absurd (true≢false (sym (each (without_share b) l) ∙ lacks))
    go false e = refl

pub each_shared : (b : Board) → b.master_count ≤ without_share b → (m : ℕ) → m < b.master_count → has_share b m ≡ true
each_shared b low m l = not-false _ ((without_first b).before m (omega (arith, low)))

-- m is the lowest master of the board that has no share line
pub record Lowest (b : Board) (m : ℕ) : Type 0 where
  pub there : m < b.master_count
  pub lacks : has_share b m ≡ false
  pub others : (k : ℕ) → k < m → has_share b k ≡ true

-- which 20 at the end says of the master that it names
pub end_lowest : (b : Board) → end_refusal b ≡ 20 → Lowest b (without_share b)
unfolding end_refusal
end_lowest b e =
    go (eqb b.master_count 0 || eqb b.slave_count 0) (ltb (without_share b) b.master_count) refl e
  where
    go : (c d : Bool) → ltb (without_share b) b.master_count ≡ d → ◌≡◌ {A = ℕ} (cond c 2 (cond d 20 0)) 20
        → Lowest b (without_share b)
    go true d q e = absurd (omega arith)
    go false false q e = absurd (omega arith)
    go false true q e =
        let f = without_first b in
        let l = ltb-true _ _ q in
        record {
          there = l;
          lacks = not-true _ (f.found l);
          others = λ k h. not-false _ (f.before k h);
        }

-- nothing is refused at the end
pub record EndTaken (b : Board) : Type 0 where
  pub some_master : b.master_count ≢ 0
  pub some_slave : b.slave_count ≢ 0
  pub connects : (m : ℕ) → m < b.master_count → has_share b m ≡ true

pub end_taken : (b : Board) → end_refusal b ≡ 0 → EndTaken b
unfolding end_refusal
end_taken b e =
    let counts = passed (eqb b.master_count 0 || eqb b.slave_count 0) 1 _ e in
    let zero = neither (eqb b.master_count 0) _ counts.0 in
    let each = passed (ltb (without_share b) b.master_count) 19 0 counts.1 in
    record {
      some_master = eqb-false _ _ zero.0;
      some_slave = eqb-false _ _ zero.1;
      connects = each_shared b (ltb-false _ _ each.0);
    }

pub end_clear : (b : Board) → EndTaken b → end_refusal b ≡ 0
unfolding end_refusal
end_clear b t =
    rw (
      ne_eqb b.master_count 0 t.some_master,
      ne_eqb b.slave_count 0 t.some_slave,
      none_without b t.connects,
    )
