-- A board's own lines, read: as long as none is refused, the board so far has the board's own entries.
-- Assumes nothing.
use mathlib.Core.Path.{◌≡◌, refl, sym, ◌∙◌}
use mathlib.Core.Bool.{Bool, true, false, cond}
use mathlib.Core.List.{List, [], ◌∷◌, ◌++◌}
use mathlib.Core.Logic.{◌≢◌}
use Prim.Native.Nat.{ℕ, zero, suc, ◌+◌, ◌*◌, ◌/◌, ◌%◌, ◌≤◌, ◌<◌}
use native.Mathlib.Decide.{ℕ_discrete}
use native.Mathlib.Numerals.{add-one}
use native.Mathlib.Omega.{arith}
use lib.Dec.{ltb}
use lib.ListN.{get_or}
use borrow.Author.Tests.{lt-ltb}
use Rattle.common_laws.specs.Lists.{gather, table}
use Rattle.common_laws.proofs.Tests.{at_most}
use Rattle.common_laws.proofs.FrontLaws.{front, front_none, front_next, front_skip, front_all}
use Rattle.description_board.specs.declared.Board.{Board}
use Rattle.description_board.specs.declared.Item.{Item}
use Rattle.description_board.specs.declared.Item.TheVariants.{ShareLine, DefaultLine}
use Rattle.description_board.specs.declared.Reading.{Reading}
use Rattle.description_board.specs.Records.{no_master, no_slave, no_board, master_at, slave_at}
use Rattle.description_board.specs.Rules.{item_refusal, with_item, with_master, with_slave, with_share, with_default}
use Rattle.description_board.specs.Rules.{pair_rank, rank_of, refused, start, taken, step, step_all}
use Rattle.description_board.specs.Items.{master_item, slave_item, share_item, default_item, items}
use Rattle.description_board.specs.Rebuilt.{trimmed}
use Rattle.description_board.proofs.RuleLaws.{master_taken, slave_taken}
use Rattle.description_board.proofs.ItemLaws.{line_none, line_some, default_none, default_some}
use Rattle.description_board.proofs.StepAllLaws.{step_taken, run_append}

-- the rank of the last connected pair of b among its first k, 0 where there is none
unfoldable pub last_rank : Board → ℕ → ℕ
last_rank b zero = 0
last_rank b (suc k) = cond (ltb 0 (get_or b.shares k 0)) (k + 1) (last_rank b k)

pub last_within : (b : Board) (k : ℕ) → last_rank b k ≤ k
unfolding last_rank
last_within b zero = omega arith
last_within b (suc k) = at_most (ltb 0 (get_or b.shares k 0)) (k + 1) _ (omega arith) (omega (arith, last_within b k))

-- what has been read after b's first m masters, its first s slaves and its first k shares, so before the line `default`
unfoldable pub read_to : Board → ℕ → ℕ → ℕ → Reading
read_to b m s k = record {
  number = 0;
  above = last_rank b k;
  board = record {
    master_count = m;
    slave_count = s;
    masters = front (master_at b) no_master 8 m;
    slaves = front (slave_at b) no_slave 16 s;
    shares = front (λ i. get_or b.shares i 0) 0 128 k;
    default_line = false;
  };
}

-- what has been read after all of its lines; the line above is a pair's only where the board has no line `default`
unfoldable pub all_read : Board → Reading
all_read b = record {
  number = 0;
  above = cond b.default_line 0 (last_rank b 128);
  board = trimmed b;
}

-- the line of the share at index k, where the pair is connected
abbrev pub share_line : Board → ℕ → Item
share_line b k = ShareLine (k / 16) (k % 16) (get_or b.shares k 0)

module _ (b : Board) where
  pub read_none : start ≡ read_to b 0 0 0
  unfolding start refused no_board read_to last_rank
  read_none =
      rw (front_none (master_at b) no_master 8, front_none (slave_at b) no_slave 16, front_none (λ i. get_or b.shares i 0) 0 128)

  -- at the end: the board, trimmed, without the line `default` and with it
  module _ (has : b.default_line ≡ false) where
    read_all : step_all (read_to b b.master_count b.slave_count 128) (default_item b.default_line) ≡ all_read b
    unfolding step_all read_to all_read trimmed front
    read_all = rw (default_none b.default_line has, has, ← front_all (λ i. get_or b.shares i 0) 0 128)

  module _ (has : b.default_line ≡ true) where
    read_default : item_refusal (read_to b b.master_count b.slave_count 128) DefaultLine ≡ 0
        → step_all (read_to b b.master_count b.slave_count 128) (default_item b.default_line) ≡ all_read b
    unfolding step_all read_to all_read trimmed front taken with_item with_default rank_of
    read_default e =
        rw (default_some b.default_line has)
        (sym (step_taken _ _ refl refl e) ∙ rw (has, ← front_all (λ i. get_or b.shares i 0) 0 128))

  -- one line more
  pub read_master : (m : ℕ) → item_refusal (read_to b m 0 0) (master_item b.masters m) ≡ 0
      → step (read_to b m 0 0) (master_item b.masters m) ≡ read_to b (suc m) 0 0
  unfolding read_to master_item item_refusal taken with_item with_master rank_of last_rank
  read_master m e =
      let l : m < 8 = (master_taken _ _ _ e).room in
      sym (step_taken _ _ refl refl e) ∙ rw (front_next (master_at b) no_master 8 m l, add-one m)

  pub read_slave : (m s : ℕ) → item_refusal (read_to b m s 0) (slave_item b.slaves s) ≡ 0
      → step (read_to b m s 0) (slave_item b.slaves s) ≡ read_to b m (suc s) 0
  unfolding read_to slave_item item_refusal taken with_item with_slave rank_of last_rank
  read_slave m s e =
      let l : s < 16 = (slave_taken _ _ _ e).room in
      sym (step_taken _ _ refl refl e) ∙ rw (front_next (slave_at b) no_slave 16 s l, add-one s)

  -- one share more
  module _ (m s k : ℕ) (h : k < 128) where
    read_zero : get_or b.shares k 0 ≡ 0 → step_all (read_to b m s k) (share_item b.shares k) ≡ read_to b m s (suc k)
    unfolding step_all read_to last_rank
    read_zero z = rw (line_none b.shares k z, z, front_skip (λ i. get_or b.shares i 0) 0 128 k h z, add-one k)

    read_share : get_or b.shares k 0 ≢ 0 → item_refusal (read_to b m s k) (share_line b k) ≡ 0
        → step_all (read_to b m s k) (share_item b.shares k) ≡ read_to b m s (suc k)
    unfolding step_all read_to last_rank taken with_item with_share rank_of pair_rank
    read_share z e =
        let i : 16 * (k / 16) + k % 16 ≡ k = omega arith in
        rw (line_some b.shares k z)
        (sym (step_taken _ _ refl refl e)
        ∙ rw (
          i,
          front_next (λ i. get_or b.shares i 0) 0 128 k h,
          add-one k,
          lt-ltb 0 (get_or b.shares k 0) (omega arith),
        ))

-- lines that lead from one reading to another, and a line that is not refused, where E tells that none was refused
record Leads (E : Reading → Type 0) (o : Reading) (xs : List Item) (p : Reading) : Type 0 where
  on : E (step_all o xs) → step_all o xs ≡ p

abbrev pub Clear : (Reading → Type 0) → Reading → Item → Type 0
Clear E r x = E (step r x) → item_refusal r x ≡ 0

module _ (E : Reading → Type 0) (back : (r : Reading) (xs : List Item) → E (step_all r xs) → E r) where
  leads_on : {o p q : Reading} {xs ys : List Item} → Leads E o xs p → Leads E p ys q → Leads E o (xs ++ ys) q
  leads_on {o} {p} {q} {xs} {ys} f g = record { on = go }
    where
      go : E (step_all o (xs ++ ys)) → step_all o (xs ++ ys) ≡ q
      go e =
          let a : E (step_all (step_all o xs) ys) = rw run_append at e in
          let w : step_all o xs ≡ p = f.on (back (step_all o xs) ys a) in
          rw (run_append, w) (g.on (rw w at a))

  walk : (f : ℕ → List Item) (at : ℕ → Reading) (n : ℕ) → ((i : ℕ) → i < n → Leads E (at i) (f i) (at (suc i)))
      → Leads E (at 0) (gather f n) (at n)
  unfolding step_all gather
  walk f at zero h = record { on = λ e. refl }
  walk f at (suc n) h = leads_on (walk f at n (λ i l. h i (omega arith))) (h n (omega arith))

  -- the lines of a board, each not refused
  module _ (b : Board) where
    read_place : (m s k : ℕ) → k < 128 → (get_or b.shares k 0 ≢ 0 → Clear E (read_to b m s k) (share_line b k))
        → Leads E (read_to b m s k) (share_item b.shares k) (read_to b m s (suc k))
    unfolding step_all
    read_place m s k l h = record { on = go (ℕ_discrete (get_or b.shares k 0) 0) }
      where
        go : Dec (get_or b.shares k 0 ≡ 0) → E (step_all (read_to b m s k) (share_item b.shares k))
            → step_all (read_to b m s k) (share_item b.shares k) ≡ read_to b m s (suc k)
        go (yes z) e = read_zero b m s k l z
        go (no z) e = read_share b m s k l z (h z (rw (line_some b.shares k z) at e))

    read_last : (b.default_line ≡ true → Clear E (read_to b b.master_count b.slave_count 128) DefaultLine)
        → Leads E (read_to b b.master_count b.slave_count 128) (default_item b.default_line) (all_read b)
    unfolding step_all
    read_last h = record { on = go b.default_line refl }
      where
        o : Reading
        o = read_to b b.master_count b.slave_count 128

        go : (c : Bool) → b.default_line ≡ c → E (step_all o (default_item b.default_line))
            → step_all o (default_item b.default_line) ≡ all_read b
        go false q e = read_all b q
        go true q e = read_default b q (h q (rw (default_some b.default_line q) at e))

    pub read_items : ((m : ℕ) → m < b.master_count → Clear E (read_to b m 0 0) (master_item b.masters m))
        → ((s : ℕ) → s < b.slave_count → Clear E (read_to b b.master_count s 0) (slave_item b.slaves s))
        → ((k : ℕ) → k < 128 → get_or b.shares k 0 ≢ 0
        → Clear E (read_to b b.master_count b.slave_count k) (share_line b k))
        → (b.default_line ≡ true → Clear E (read_to b b.master_count b.slave_count 128) DefaultLine)
        → E (step_all start (items b)) → step_all start (items b) ≡ all_read b
    unfolding items table step_all
    read_items f g h d =
        let mc = b.master_count in
        let sc = b.slave_count in
        rw (read_none b)
        (leads_on
        (walk (λ m. master_item b.masters m ∷ []) (λ m. read_to b m 0 0) mc
        (λ m l. record { on = λ e. read_master b m (f m l e) }))
        (leads_on
        (walk (λ s. slave_item b.slaves s ∷ []) (λ s. read_to b mc s 0) sc
        (λ s l. record { on = λ e. read_slave b mc s (g s l e) }))
        (leads_on
        (walk (share_item b.shares) (λ k. read_to b mc sc k) 128 (λ k l. read_place mc sc k l (h k l)))
        (read_last d)))
        ).on
