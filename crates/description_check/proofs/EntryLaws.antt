-- The lines of a board entry by entry are the lines that the writer puts.
-- Assumes nothing.
use mathlib.Core.Bool.{Bool, true, false, cond}
use mathlib.Core.List.{List, [], ◌∷◌, ◌++◌, append_assoc, append-nil}
use mathlib.Core.Path.{◌≡◌, refl, sym, ap, ap₂, ◌∙◌}
use Rattle.std.specs.Prelude.{Option, Some, None, option_to_list}
use Prim.Native.Nat.{ℕ, zero, suc, ◌+◌, ◌-◌, ◌/◌, ◌%◌, ◌≤◌, ◌<◌}
use native.Mathlib.Nat.{add-zero, add-suc}
use native.Mathlib.Omega.{arith}
use lib.Dec.{eqb}
use lib.ListN.{get_or}
use borrow.Author.Tests.{lt-ltb, le-ltb}
use Rattle.common_laws.specs.Lists.{gather, table}
use Rattle.common_laws.proofs.FrontLaws.{gather_same}
use Rattle.common_laws.proofs.ListLaws.{gather_suc}
use Rattle.description_board.specs.declared.Board.{Board}
use Rattle.description_board.specs.declared.Item.{Item}
use Rattle.description_board.specs.declared.Item.TheVariants.{ShareLine}
use Rattle.description_board.specs.declared.Reading.{Reading}
use Rattle.description_board.specs.Items.{master_item, slave_item, share_item, default_item, items, board_refusal}
use Rattle.description_board.specs.Rules.{start, step_all, finish, described}
use Rattle.description_board.proofs.StepAllLaws.{run_append, run_stays, finish_stays}
use Rattle.description_check.specs.Code.Entries.{entry_count, pair_item, last_item, line_at, lines_to}

-- the numbers below a, and n more
gather_add : {X : Type 0} (f : ℕ → List X) (a n : ℕ) → gather f (a + n) ≡ gather f a ++ gather (λ i. f (a + i)) n
unfolding gather
gather_add f a zero = rw (add-zero a, append-nil (gather f a))
gather_add f a (suc n) =
    rw (add-suc a n, gather_add f a n) (append_assoc (gather f a) (gather (λ i. f (a + i)) n) (f (a + n)))

pair_present : (shares : List ℕ) (i : ℕ) → option_to_list (pair_item shares i) ≡ share_item shares i
unfolding pair_item share_item
pair_present shares i = go (eqb (get_or shares i 0) 0)
  where
    go : (t : Bool) → (let x = ShareLine (i / 16) (i % 16) (get_or shares i 0) in option_to_list (cond t None (Some x)) ≡ cond t [] (x ∷ []))
    go true = refl
    go false = refl

last_present : (has : Bool) → option_to_list (last_item has) ≡ default_item has
unfolding last_item default_item
last_present true = refl
last_present false = refl

-- the line of an entry of each of the four parts
module _ (b : Board) where
  pub at_master : (k : ℕ) → k < b.master_count → line_at b k ≡ Some (master_item b.masters k)
  unfolding line_at
  at_master k h = rw (lt-ltb _ _ h)

  pub at_slave : (k : ℕ) → b.master_count ≤ k → k < b.master_count + b.slave_count
      → line_at b k ≡ Some (slave_item b.slaves (k - b.master_count))
  unfolding line_at
  at_slave k l h = rw (le-ltb _ _ l, lt-ltb _ _ h)

  pub at_pair : (k : ℕ) → b.master_count + b.slave_count ≤ k → k < b.master_count + b.slave_count + 128
      → line_at b k ≡ pair_item b.shares (k - (b.master_count + b.slave_count))
  unfolding line_at
  at_pair k l h = rw (le-ltb k b.master_count (omega arith), le-ltb _ _ l, lt-ltb _ _ h)

  pub at_last : (k : ℕ) → b.master_count + b.slave_count + 128 ≤ k → line_at b k ≡ last_item b.default_line
  unfolding line_at
  at_last k l =
      rw (
        le-ltb k b.master_count (omega arith),
        le-ltb k (b.master_count + b.slave_count) (omega arith),
        le-ltb _ _ l,
      )

  -- the same, by counts that were read
  module _ (m s k : ℕ) {x : Option Item} (em : m ≡ b.master_count) (es : s ≡ b.slave_count) where
    pub slave_line_lem : m ≤ k → k < m + s → x ≡ Some (slave_item b.slaves (k - m)) → x ≡ line_at b k
    slave_line_lem l h e = e ∙ rw em (sym (at_slave k (omega (arith, em)) (omega (arith, em, es))))

    pub pair_line : m + s ≤ k → k < m + s + 128 → x ≡ pair_item b.shares (k - (m + s)) → x ≡ line_at b k
    pair_line l h e = e ∙ rw (em, es) (sym (at_pair k (omega (arith, em, es)) (omega (arith, em, es))))

    pub last_line : m + s + 128 ≤ k → x ≡ last_item b.default_line → x ≡ line_at b k
    last_line l e = e ∙ sym (at_last k (omega (arith, em, es)))

  master_present : (k : ℕ) → k < b.master_count → option_to_list (line_at b k) ≡ master_item b.masters k ∷ []
  master_present k h = rw (at_master k h)

  slave_present : (i : ℕ) → i < b.slave_count → option_to_list (line_at b (b.master_count + i)) ≡ slave_item b.slaves i ∷ []
  slave_present i h =
      let e : b.master_count + i - b.master_count ≡ i = omega arith in
      rw (at_slave (b.master_count + i) (omega arith) (omega arith), e)

  share_present : (i : ℕ) → i < 128 → option_to_list (line_at b (b.master_count + b.slave_count + i)) ≡ share_item b.shares i
  share_present i h =
      let n = b.master_count + b.slave_count in
      let e : n + i - n ≡ i = omega arith in
      rw (at_pair (n + i) (omega arith) (omega arith), e) (pair_present b.shares i)

  default_present : option_to_list (line_at b (b.master_count + b.slave_count + 128)) ≡ default_item b.default_line
  default_present =
      rw (at_last (b.master_count + b.slave_count + 128) (omega arith)) (last_present b.default_line)

  -- the lines of all entries are the writer's
  pub lines_all : lines_to b (entry_count b) ≡ items b
  unfolding lines_to items table
  lines_all =
      let m = b.master_count in
      let s = b.slave_count in
      let f : ℕ → List Item = λ k. option_to_list (line_at b k) in
      gather_add f (m + s) 129
      ∙ ap (λ (l : List Item). l ++ gather (λ i. f (m + s + i)) 129) (gather_add f m s)
      ∙ append_assoc (gather f m) (gather (λ i. f (m + i)) s) (gather (λ i. f (m + s + i)) 129)
      ∙ ap₂ (λ (x y : List Item). x ++ y) (gather_same _ _ m master_present)
      (ap₂ (λ (x y : List Item). x ++ y) (gather_same _ _ s slave_present)
      (gather_suc (λ i. f (m + s + i)) 128
      ∙ ap₂ (λ (x y : List Item). x ++ y) (gather_same _ _ 128 share_present) default_present))

  -- one entry more
  pub lines_next : (k : ℕ) → lines_to b (k + 1) ≡ lines_to b k ++ option_to_list (line_at b k)
  unfolding lines_to
  lines_next k = gather_suc (λ j. option_to_list (line_at b j)) k

  pub run_next : (q r : Reading) (x : Option Item) (k : ℕ) → q ≡ step_all start (lines_to b k) → x ≡ line_at b k → r ≡ step_all q (option_to_list x)
      → r ≡ step_all start (lines_to b (k + 1))
  run_next q r x k e f g = g ∙ rw (lines_next k, run_append start (lines_to b k) (option_to_list (line_at b k)), e, f)

  lines_split : (j d n : ℕ) → n ≡ j + d → lines_to b n ≡ lines_to b j ++ gather (λ i. option_to_list (line_at b (j + i))) d
  unfolding lines_to
  lines_split j d n e = rw e (gather_add (λ k. option_to_list (line_at b k)) j d)

  -- a refusal after j entries is the board's; after all of them the end is still to be tested
  pub check_stops : (q : Reading) (j : ℕ) → j ≤ entry_count b → q ≡ step_all start (lines_to b j) → (q.number ≡ 0 → ⊥)
      → q.number ≡ board_refusal b
  unfolding board_refusal described
  check_stops q j h e z =
      let n = entry_count b in
      let rest = gather (λ i. option_to_list (line_at b (j + i))) (n - j) in
      let all : items b ≡ lines_to b j ++ rest = sym lines_all ∙ lines_split j (n - j) n (omega arith) in
      let same : step_all start (items b) ≡ q =
      rw (all, run_append start (lines_to b j) rest, ← e) (run_stays q rest z) in
      sym (ap (λ (r : Reading). r.number) (ap finish same ∙ finish_stays q z))

  pub check_ends : (q : Reading) (j : ℕ) → j ≡ entry_count b → q ≡ step_all start (lines_to b j) → (finish q).number ≡ board_refusal b
  unfolding board_refusal described
  check_ends q j f e = rw (e, f, lines_all)
