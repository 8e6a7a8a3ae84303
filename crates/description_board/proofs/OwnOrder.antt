-- A board's own lines are in order (rules 1.9, 7.21): no board is refused with 21, whether a reader made it or not.
-- Assumes nothing.
use mathlib.Core.Bool.{Bool, true, false, cond, ◌||◌}
use mathlib.Core.List.{List, [], ◌∷◌}
use mathlib.Core.Path.{◌≡◌, refl}
use mathlib.Core.Logic.{◌≢◌}
use Prim.Native.Nat.{ℕ, zero, suc, ◌/◌, ◌%◌, ◌≤◌}
use native.Mathlib.Decide.{ℕ_discrete}
use native.Mathlib.Omega.{arith}
use lib.Dec.{ltb, eqb}
use lib.ListN.{get_or}
use Rattle.common_laws.specs.Lists.{gather, table}
use Rattle.common_laws.proofs.Tests.{at_most}
use Rattle.description_board.specs.declared.Board.{Board}
use Rattle.description_board.specs.declared.Item.{Item}
use Rattle.description_board.specs.declared.Item.TheVariants.{ShareLine, DefaultLine}
use Rattle.description_board.specs.declared.Reading.{Reading}
use Rattle.description_board.specs.Rules.{pair_rank, default_refusal, item_refusal, rank_of, refused, start, taken, step, step_all}
use Rattle.description_board.specs.Rules.{without_share, end_refusal, finish, described}
use Rattle.description_board.specs.Items.{master_item, slave_item, share_item, default_item, items, board_refusal}
use Rattle.description_board.proofs.RuleLaws.{item_number}
use Rattle.description_board.proofs.ItemLaws.{line_none, line_some, default_none, default_some}
use Rattle.description_board.proofs.StepAllLaws.{run_append}

-- no line so far was refused with 21, and the pair on the line above is one of the first k
record InOrder (k : ℕ) (r : Reading) : Type 0 where
  other : r.number ≢ 21
  rank : r.above ≤ k

order_more : (k j : ℕ) (r : Reading) → k ≤ j → InOrder k r → InOrder j r
order_more k j r h o = record { other = o.other; rank = omega (arith, o.rank) }

-- one line more, which is no pair before the k-th
order_step : (k : ℕ) (r : Reading) (x : Item) → k ≤ rank_of x → InOrder k r → InOrder (rank_of x) (step r x)
unfolding step taken refused
order_step k r x h o = go (eqb r.number 0) (eqb (item_refusal r x) 0)
  where
    go : (c d : Bool) → InOrder (rank_of x) (cond c (cond d (taken r x) (refused (item_refusal r x))) r)
    go true true = record { other = λ z. omega arith; rank = omega arith }
    go true false = record {
      other = item_number (λ n. n ≢ 21) r x (λ n l z. omega arith) (λ l z. omega (arith, o.rank));
      rank = omega arith;
    }
    go false d = order_more k (rank_of x) r h o

-- lines one after another
order_lines : (f : ℕ → List Item) (rank : ℕ → ℕ) (n : ℕ)
    → ((i : ℕ) (r : Reading) → InOrder (rank i) r → InOrder (rank (suc i)) (step_all r (f i)))
    → (r : Reading) → InOrder (rank 0) r → InOrder (rank n) (step_all r (gather f n))
unfolding gather step_all
order_lines f rank zero each r o = o
order_lines f rank (suc n) each r o = rw run_append (each n _ (order_lines f rank n each r o))

-- the line of pair i, where there is one
order_share : (shares : List ℕ) (i : ℕ) (r : Reading) → InOrder i r → InOrder (suc i) (step_all r (share_item shares i))
unfolding step_all rank_of pair_rank
order_share shares i r o = go (ℕ_discrete (get_or shares i 0) 0)
  where
    line : Item
    line = ShareLine (i / 16) (i % 16) (get_or shares i 0)

    go : Dec (get_or shares i 0 ≡ 0) → InOrder (suc i) (step_all r (share_item shares i))
    go (yes e) = rw (line_none shares i e) (order_more i (suc i) r (omega arith) o)
    go (no e) =
        rw (line_some shares i e)
        (order_more (rank_of line) (suc i) (step r line) (omega arith) (order_step i r line (omega arith) o))

-- the line `default`, where there is one: it is refused with 2 alone
default_number : (b : Board) → default_refusal b ≤ 2
unfolding default_refusal
default_number b = at_most (eqb b.slave_count 0 || b.default_line) 2 0 (omega arith) (omega arith)

order_default : (has : Bool) (r : Reading) → InOrder 128 r → InOrder 128 (step_all r (default_item has))
unfolding step_all step taken refused rank_of item_refusal
order_default false r o = rw (default_none false refl) o
order_default true r o = rw (default_some true refl) (go (eqb r.number 0) (eqb (item_refusal r DefaultLine) 0))
  where
    go : (c d : Bool) → InOrder 128 (cond c (cond d (taken r DefaultLine) (refused (item_refusal r DefaultLine))) r)
    go true true = record { other = λ z. omega arith; rank = omega arith }
    go true false = record { other = λ z. omega (arith, default_number r.board); rank = omega arith }
    go false d = o

-- all lines of a board
order_items : (b : Board) → InOrder 128 (step_all start (items b))
unfolding items table step_all master_item slave_item rank_of start refused
order_items b =
    rw (run_append, run_append, run_append)
    (order_default b.default_line _
    (order_lines (share_item b.shares) (λ i. i) 128 (order_share b.shares) _
    (order_lines (λ s. slave_item b.slaves s ∷ []) (λ i. 0) b.slave_count (λ s r o. order_step 0 r _ (omega arith) o) _
    (order_lines (λ m. master_item b.masters m ∷ []) (λ i. 0) b.master_count (λ m r o. order_step 0 r _ (omega arith) o) _
    (record { other = λ z. omega arith; rank = omega arith })))))

-- nor is the end refused with 21
end_number : (b : Board) → end_refusal b ≤ 20
unfolding end_refusal
end_number b =
    at_most (eqb b.master_count 0 || eqb b.slave_count 0) 2 _ (omega arith)
    (at_most (ltb (without_share b) b.master_count) 20 0 (omega arith) (omega arith))

-- so no board is
pub board_in_order : (b : Board) → board_refusal b ≢ 21
unfolding board_refusal described finish refused
board_in_order b = go (eqb r.number 0) (eqb (end_refusal r.board) 0)
  where
    r : Reading
    r = step_all start (items b)

    go : (c d : Bool) → (cond c (cond d r (refused (end_refusal r.board))) r).number ≢ 21
    go true true = (order_items b).other
    go true false = λ z. omega (arith, end_number r.board)
    go false d = (order_items b).other
