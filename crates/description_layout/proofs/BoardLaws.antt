-- A board's records at their indices in an array of numbers: what is read, how many there are, and the array of zeros.
-- Assumes nothing.
use mathlib.Core.Path.{◌≡◌, refl, sym, ◌∙◌}
use mathlib.Core.List.{List}
use Prim.Native.Nat.{ℕ, ◌+◌, ◌*◌, ◌<◌}
use native.Mathlib.Omega.{arith}
use lib.ListN.{length, get_or, replicate, length-replicate}
use Rattle.common_laws.specs.Lists.{table}
use Rattle.common_laws.proofs.TableLaws.{length_table, get_or_table, get_or_replicate_all}
use Rattle.common_laws.proofs.FillLaws.{table_is}
use Rattle.common_numbers.specs.Numbers.{slave_length}
use Rattle.description_board.specs.declared.Master.{Master}
use Rattle.description_board.specs.Records.{Slave}
use Rattle.description_board.specs.declared.Board.{Board}
use Rattle.description_board.specs.Records.{no_master, no_slave, no_board, master_at, slave_at, shares_at}
use Rattle.description_board.specs.Rules.{with_share}
use Rattle.description_layout.specs.Layout.{shares_from, board_length, master_from, slave_from, board_in}
use Rattle.description_layout.specs.Code.Puts.{with_share_at}

module _ (l : List ℕ) where
  pub masters_length : length (board_in l).masters ≡ 8
  unfolding board_in
  masters_length = length_table (λ m. master_from l (2 + 2 * m)) 8

  pub slaves_length : length (board_in l).slaves ≡ 16
  unfolding board_in
  slaves_length = length_table (λ s. slave_from l (18 + slave_length * s)) 16

  pub shares_length : length (board_in l).shares ≡ 128
  unfolding board_in
  shares_length = length_table (λ i. get_or l (shares_from + i) 0) 128

  pub master_found : (m : ℕ) (d : Master) → m < 8 → get_or (board_in l).masters m d ≡ master_from l (2 + 2 * m)
  unfolding board_in
  master_found m d h = get_or_table (λ i. master_from l (2 + 2 * i)) 8 d m h

  pub slave_found : (s : ℕ) (d : Slave) → s < 16 → get_or (board_in l).slaves s d ≡ slave_from l (18 + slave_length * s)
  unfolding board_in
  slave_found s d h = get_or_table (λ i. slave_from l (18 + slave_length * i)) 16 d s h

  pub share_found : (i : ℕ) → i < 128 → get_or (board_in l).shares i 0 ≡ get_or l (shares_from + i) 0
  unfolding board_in
  share_found i h = get_or_table (λ k. get_or l (shares_from + k) 0) 128 0 i h

  pub master_read : (m : ℕ) → m < 8 → master_from l (2 + 2 * m) ≡ master_at (board_in l) m
  master_read m h = sym (master_found m no_master h)

  pub slave_read : (s : ℕ) → s < 16 → slave_from l (18 + slave_length * s) ≡ slave_at (board_in l) s
  slave_read s h = sym (slave_found s no_slave h)

  pub share_read : (m s : ℕ) → m < 8 → s < 16 → get_or l (shares_from + (16 * m + s)) 0 ≡ shares_at (board_in l) m s
  share_read m s h k = sym (share_found (16 * m + s) (omega arith))

-- the share put is that of master m at slave s
pub share_put_at : (b : Board) (m s n : ℕ) → with_share_at b (16 * m + s) n ≡ with_share b m s n
unfolding with_share_at with_share
share_put_at b m s n = refl

-- ---- the array of zeros

abbrev zeros : List ℕ
zeros = replicate board_length 0

zero_at : (k : ℕ) → get_or zeros k 0 ≡ 0
zero_at k = get_or_replicate_all board_length k 0

no_master_lem : (p : ℕ) → master_from zeros p ≡ no_master
unfolding master_from
no_master_lem p = rw (zero_at p, zero_at (p + 1))

no_slave_lem : (p : ℕ) → slave_from zeros p ≡ no_slave
unfolding slave_from
no_slave_lem p =
    rw (
      zero_at p,
      zero_at (p + 1),
      zero_at (p + 2),
      zero_at (p + 3),
      zero_at (p + 4),
      zero_at (p + 5),
      zero_at (p + 6),
      zero_at (p + 7),
    )

same_table : {X : Type 0} (f : ℕ → X) (n : ℕ) (d : X) → ((i : ℕ) → f i ≡ d) → table f n ≡ replicate n d
same_table f n d h =
    sym (table_is f n d (replicate n d) (length-replicate n d) (λ k l. get_or_replicate_all n k d ∙ sym (h k)))

pub board_none : board_in (replicate board_length 0) ≡ no_board
unfolding board_in no_board
board_none =
    rw (
      same_table (λ m. master_from zeros (2 + 2 * m)) 8 no_master (λ m. no_master_lem (2 + 2 * m)),
      same_table (λ s. slave_from zeros (18 + slave_length * s)) 16 no_slave (λ s. no_slave_lem (18 + slave_length * s)),
      same_table (λ i. get_or zeros (shares_from + i) 0) 128 0 (λ i. zero_at (shares_from + i)),
      zero_at 0,
      zero_at 1,
    )

-- ---- whole arrays

pub all_zero : (n : ℕ) → table {X = ℕ} (λ k. 0) n ≡ replicate n 0
all_zero n = same_table {X = ℕ} (λ k. 0) n 0 (λ i. refl)
