-- A board's numbers, spelled out: what a copy leaves.
-- Assumes nothing.
use mathlib.Core.Path.{◌≡◌, refl, sym, ap, ◌∙◌}
use mathlib.Core.Bool.{Bool, true, false}
use mathlib.Core.List.{List, [], ◌∷◌, ◌++◌}
use Prim.Native.Nat.{ℕ, ◌+◌, ◌*◌}
use native.Mathlib.Nat.{zero-add, add-zero}
use native.Mathlib.Omega.{arith}
use lib.ListN.{length, get_or, set, length-set, get_or-append}
use lib.Seq.{get_or-set_same, get_or-set_other, get_or_at}
use Rattle.common_laws.specs.Lists.{gather, table}
use Rattle.common_laws.proofs.TableLaws.{length_table, get_or_table}
use Rattle.common_laws.proofs.FrontLaws.{table_same}
use Rattle.common_laws.proofs.PartLaws.{part, part_whole, part_one, part_join, part_cons, part_gather}
use Rattle.common_numbers.specs.Numbers.{slave_length}
use Rattle.description_board.specs.Records.{master_at, slave_at}
use Rattle.description_layout.specs.Layout.{shares_from, default_at, board_length, master_from, slave_from}
use Rattle.description_layout.specs.Layout.{marked, mark_of, numbers_of_master, numbers_of_slave, board_in, numbers_of_board}
use Rattle.description_layout.proofs.BoardLaws.{master_read, slave_read, share_found}
use Rattle.description_layout.proofs.PutLaws.{board_same}

-- the number put for a mark says the mark
pub mark_back : (b : Bool) {n : ℕ} → n ≡ mark_of b → marked n ≡ b
unfolding mark_of
mark_back true e = rw e
mark_back false e = rw e

module _ (l : List ℕ) where
  master_spelled : (p : ℕ) → numbers_of_master (master_from l p) ≡ part l p 2
  unfolding master_from part table gather
  master_spelled p = rw (add-zero p)

  slave_spelled : (p : ℕ) → numbers_of_slave (slave_from l p) ≡ part l p slave_length
  unfolding slave_from part table gather
  slave_spelled p = rw (add-zero p)

  shares_spelled : table (λ i. get_or (board_in l).shares i 0) 128 ≡ part l shares_from 128
  unfolding part
  shares_spelled = table_same _ _ 128 (share_found l)

  counts_spelled : ((board_in l).master_count ≡ get_or l 0 0) × ((board_in l).slave_count ≡ get_or l 1 0)
  unfolding board_in
  counts_spelled = (refl, refl)

  -- the numbers of the board in l: those of l but for the mark
  front_spelled : numbers_of_board (board_in l) ≡ part l 0 default_at ++ mark_of (board_in l).default_line ∷ []
  unfolding numbers_of_board
  front_spelled =
      let cards : ℕ = slave_length * 16 in
      let z : List ℕ = mark_of (board_in l).default_line ∷ [] in
      let masters : gather (λ m. numbers_of_master (master_at (board_in l) m)) 8 ≡ part l 2 16 =
      part_gather l 2 2 _ 8 (λ m h. ap numbers_of_master (sym (master_read l m h)) ∙ master_spelled (2 + 2 * m)) in
      let slaves : gather (λ s. numbers_of_slave (slave_at (board_in l) s)) 16 ≡ part l 18 cards =
      part_gather l 18 slave_length _ 16
      (λ s h. ap numbers_of_slave (sym (slave_read l s h)) ∙ slave_spelled (18 + slave_length * s)) in
      let upper : part l 2 16 ++ part l 18 cards ≡ part l 2 (16 + cards) = part_join l 2 16 cards in
      let all : part l 2 (16 + cards) ++ part l shares_from 128 ≡ part l 2 (16 + cards + 128) = part_join l 2 (16 + cards) 128 in
      rw (masters, slaves, shares_spelled, upper, all, counts_spelled.0, counts_spelled.1)
      (ap (λ (x : List ℕ). x ++ z)
      (ap (λ (x : List ℕ). get_or l 0 0 ∷ x) (part_cons l 1 (16 + cards + 128)) ∙ part_cons l 0 (17 + cards + 128)))

-- what a copy leaves: the numbers of l before the mark, and the mark put anew
module _ (l : List ℕ) (fits : length l ≡ board_length) where
  copied_front : (n : ℕ) → part (set l default_at n) 0 default_at ≡ part l 0 default_at
  unfolding part
  copied_front n = table_same _ _ default_at (λ i h.
      rw (zero-add i) (get_or-set_other l default_at i n 0 (λ q. absurd (omega arith))))

  pub copied : {n : ℕ} → n ≡ mark_of (board_in l).default_line → set l default_at n ≡ numbers_of_board (board_in l)
  copied {n} q =
      let s = set l default_at n in
      let m : get_or s default_at 0 ≡ n = get_or-set_same l default_at n 0 (rw fits (omega arith)) in
      let split : part s 0 default_at ++ part s default_at 1 ≡ part s 0 board_length = part_join s 0 default_at 1 in
      part_whole s board_length (length-set l default_at n ∙ fits)
      ∙ sym split
      ∙ rw (← part_one s default_at, m, copied_front n, q) (sym (front_spelled l))

-- those numbers are the board of l
pub numbers_read : (l : List ℕ) → board_in (numbers_of_board (board_in l)) ≡ board_in l
unfolding part
numbers_read l =
    let x = part l 0 default_at in
    let m = mark_of (board_in l).default_line in
    let k : length x ≡ default_at = length_table _ default_at in
    rw (front_spelled l)
    (board_same l (x ++ m ∷ [])
    (λ i low high. get_or-append x (m ∷ []) 0 i (rw k high) ∙ get_or_table _ default_at 0 i high ∙ rw (zero-add i))
    (ap marked (get_or_at x m [] 0 default_at k) ∙ mark_back (board_in l).default_line refl))
