-- A board's records put into an array of numbers: the record is read back, and no other record has a number there.
-- Assumes nothing.
use mathlib.Core.Path.{◌≡◌}
use mathlib.Core.List.{List, [], ◌∷◌}
use mathlib.Core.Logic.{inl, inr, ⊎_elim}
use Prim.Native.Nat.{ℕ, suc, ◌+◌, ◌*◌, ◌<◌}
use native.Mathlib.Nat.{add-zero}
use native.Mathlib.Omega.{arith}
use lib.ListN.{length, get_or, set, length-set}
use lib.Seq.{sets, get_or-set_same}
use Rattle.common_laws.proofs.FillLaws.{table_put, below_above}
use Rattle.common_laws.proofs.FrontLaws.{table_same}
use Rattle.common_laws.proofs.SetsLaws.{five, two_sets, six_sets, Agree, five_same, sets_apart}
use Rattle.common_laws.proofs.SetsLaws.{counted_apart, counted_inside, records_apart}
use Rattle.common_numbers.specs.Numbers.{slave_length}
use Rattle.description_board.specs.Records.{Slave}
use Rattle.description_board.specs.Rules.{with_master, with_slave, with_default}
use Rattle.description_layout.specs.Layout.{marked, shares_from, default_at, board_length}
use Rattle.description_layout.specs.Layout.{master_from, slave_from, numbers_of_slave, board_in}
use Rattle.description_layout.specs.Code.Puts.{with_share_at}

-- where slave s begins
abbrev at : ℕ → ℕ
at s = 18 + slave_length * s

-- records of two arrays that agree where the record stands
module _ (l m : List ℕ) (q : ℕ) where
  master_same : Agree l m q 2 → master_from m q ≡ master_from l q
  unfolding master_from
  master_same f = rw (f q (omega arith) (omega arith), f (q + 1) (omega arith) (omega arith))

  slave_same : Agree l m q slave_length → slave_from m q ≡ slave_from l q
  unfolding slave_from
  slave_same e =
      rw (
        e (q + 5) (omega arith) (omega arith),
        e (q + 6) (omega arith) (omega arith),
        e (q + 7) (omega arith) (omega arith),
      )
      (five_same l m q
      (λ b s w u r.
      record {
        base = b;
        span = s;
        width = w;
        burst = u;
        read_wait = r;
        write_wait = get_or l (q + 5) 0;
        native = get_or l (q + 6) 0;
        latency = get_or l (q + 7) 0;
      })
      (λ k low high. e k low (omega arith)))

-- one master more: its two numbers, and the count
pub master_put : (l : List ℕ) → length l ≡ board_length → (w u n : ℕ) → n ≡ (board_in l).master_count → n < 8
    → board_in (set (set (set l (2 + 2 * n) w) (2 + 2 * n + 1) u) 0 (n + 1)) ≡ with_master (board_in l) w u
unfolding board_in with_master master_from
master_put l e w u n q h =
    let p = 2 + 2 * n in
    let vs = w ∷ u ∷ [] in
    let y = set (sets l p vs) 0 (n + 1) in
    let apart = counted_apart vs l p 0 (n + 1) (omega arith) in
    let inside = counted_inside vs l p 0 (n + 1) (omega arith) (rw e (omega arith)) in
    rw (
      two_sets l p w u,
      ← q,
      get_or-set_same (sets l p vs) 0 (n + 1) 0 (simp (length-set, e) (omega arith)),
      apart 1 1 (inl (omega arith)) (inl (omega arith)) 1 (omega arith) (omega arith),
      table_put (λ i. master_from l (2 + 2 * i)) (λ i. master_from y (2 + 2 * i)) 8 n (record { width = w; burst = u })
          (rw (inside 1 (omega arith), rw add-zero at (inside 0 (omega arith))))
          (λ i d. master_same l y (2 + 2 * i) (apart (2 + 2 * i) 2 (inl (omega arith)) (records_apart 2 2 i n d))),
      table_same (λ s. slave_from y (at s)) (λ s. slave_from l (at s)) 16
          (λ s g. slave_same l y (at s) (apart (at s) slave_length (inl (omega arith)) (inr (omega arith)))),
      table_same (λ i. get_or y (shares_from + i) 0) (λ i. get_or l (shares_from + i) 0) 128
          (λ i g.
          apart (shares_from + i) 1 (inl (omega arith)) (inr (omega arith)) (shares_from + i) (omega arith) (omega arith)),
      apart default_at 1 (inl (omega arith)) (inr (omega arith)) default_at (omega arith) (omega arith),
    )

-- the stores of the code, of the eight numbers of a slave
abbrev stored : List ℕ → ℕ → Slave → List ℕ
stored l p s =
    set
    (set (set (five l p s.base s.span s.width s.burst s.read_wait) (p + 5) s.write_wait) (p + 6) s.native)
    (p + 7) s.latency

slave_sets : (l : List ℕ) (p : ℕ) (s : Slave) → stored l p s ≡ sets l p (numbers_of_slave s)
slave_sets l p s =
    let q : p + 6 ≡ suc (suc (suc (suc (suc (suc p))))) = omega arith in
    let r : p + 7 ≡ suc (suc (suc (suc (suc (suc (suc p)))))) = omega arith in
    rw (six_sets l p s.base s.span s.width s.burst s.read_wait s.write_wait, q, r)

-- one slave more: its eight numbers, and the count
pub slave_put : (l : List ℕ) → length l ≡ board_length → (s : Slave) (n : ℕ) → n ≡ (board_in l).slave_count → n < 16
    → board_in (set (stored l (at n) s) 1 (n + 1)) ≡ with_slave (board_in l) s
unfolding board_in with_slave slave_from
slave_put l e s n q h =
    let p = at n in
    let vs = numbers_of_slave s in
    let y = set (sets l p vs) 1 (n + 1) in
    let apart = counted_apart vs l p 1 (n + 1) (omega arith) in
    let inside = counted_inside vs l p 1 (n + 1) (omega arith) (rw e (omega arith)) in
    rw (
      slave_sets l p s,
      ← q,
      apart 0 1 (inr (omega arith)) (inl (omega arith)) 0 (omega arith) (omega arith),
      get_or-set_same (sets l p vs) 1 (n + 1) 0 (simp (length-set, e) (omega arith)),
      table_same (λ m. master_from y (2 + 2 * m)) (λ m. master_from l (2 + 2 * m)) 8
          (λ m g. master_same l y (2 + 2 * m) (apart (2 + 2 * m) 2 (inl (omega arith)) (inl (omega arith)))),
      table_put (λ i. slave_from l (at i)) (λ i. slave_from y (at i)) 16 n s
          (rw (
            inside 1 (omega arith),
            inside 2 (omega arith),
            inside 3 (omega arith),
            inside 4 (omega arith),
            inside 5 (omega arith),
            inside 6 (omega arith),
            inside 7 (omega arith),
            rw add-zero at (inside 0 (omega arith)),
          ))
          (λ i d. slave_same l y (at i) (apart (at i) slave_length (inl (omega arith)) (records_apart 18 slave_length i n d))),
      table_same (λ i. get_or y (shares_from + i) 0) (λ i. get_or l (shares_from + i) 0) 128
          (λ i g.
          apart (shares_from + i) 1 (inl (omega arith)) (inr (omega arith)) (shares_from + i) (omega arith) (omega arith)),
      apart default_at 1 (inl (omega arith)) (inr (omega arith)) default_at (omega arith) (omega arith),
    )

-- one share
pub share_put : (l : List ℕ) → length l ≡ board_length → (i n : ℕ) → i < 128
    → board_in (set l (shares_from + i) n) ≡ with_share_at (board_in l) i n
unfolding board_in with_share_at
share_put l e i n h =
    let m = set l (shares_from + i) n in
    let apart = sets_apart (n ∷ []) l (shares_from + i) in
    rw (
      apart 0 1 (inl (omega arith)) 0 (omega arith) (omega arith),
      apart 1 1 (inl (omega arith)) 1 (omega arith) (omega arith),
      table_same (λ k. master_from m (2 + 2 * k)) (λ k. master_from l (2 + 2 * k)) 8
          (λ k g. master_same l m (2 + 2 * k) (apart (2 + 2 * k) 2 (inl (omega arith)))),
      table_same (λ k. slave_from m (at k)) (λ k. slave_from l (at k)) 16
          (λ k g. slave_same l m (at k) (apart (at k) slave_length (inl (omega arith)))),
      table_put (λ k. get_or l (shares_from + k) 0) (λ k. get_or m (shares_from + k) 0) 128 i n
          (get_or-set_same l (shares_from + i) n 0 (rw e (omega arith)))
          (λ k d.
          apart (shares_from + k) 1 (⊎_elim (λ x. inl (omega arith)) (λ x. inr (omega arith)) (below_above k i d)) (shares_from + k)
          (omega arith) (omega arith)),
      apart default_at 1 (inr (omega arith)) default_at (omega arith) (omega arith),
    )

-- the mark of the line `default`
pub default_put : (l : List ℕ) → length l ≡ board_length → board_in (set l default_at 1) ≡ with_default (board_in l)
unfolding board_in with_default
default_put l e =
    let m = set l default_at 1 in
    let apart = sets_apart (1 ∷ []) l default_at in
    rw (
      apart 0 1 (inl (omega arith)) 0 (omega arith) (omega arith),
      apart 1 1 (inl (omega arith)) 1 (omega arith) (omega arith),
      table_same (λ k. master_from m (2 + 2 * k)) (λ k. master_from l (2 + 2 * k)) 8
          (λ k g. master_same l m (2 + 2 * k) (apart (2 + 2 * k) 2 (inl (omega arith)))),
      table_same (λ k. slave_from m (at k)) (λ k. slave_from l (at k)) 16
          (λ k g. slave_same l m (at k) (apart (at k) slave_length (inl (omega arith)))),
      table_same (λ k. get_or m (shares_from + k) 0) (λ k. get_or l (shares_from + k) 0) 128
          (λ k g. apart (shares_from + k) 1 (inl (omega arith)) (shares_from + k) (omega arith) (omega arith)),
      get_or-set_same l default_at 1 0 (rw e (omega arith)),
    )

-- an array with the same numbers in front of the mark, and the same mark, is the same board
pub board_same : (l m : List ℕ) → Agree l m 0 default_at → marked (get_or m default_at 0) ≡ (board_in l).default_line
    → board_in m ≡ board_in l
unfolding board_in
board_same l m e d =
    rw (
      e 0 (omega arith) (omega arith),
      e 1 (omega arith) (omega arith),
      table_same (λ k. master_from m (2 + 2 * k)) (λ k. master_from l (2 + 2 * k)) 8
          (λ k g. master_same l m (2 + 2 * k) (λ i low high. e i (omega arith) (omega arith))),
      table_same (λ k. slave_from m (at k)) (λ k. slave_from l (at k)) 16
          (λ k g. slave_same l m (at k) (λ i low high. e i (omega arith) (omega arith))),
      table_same (λ k. get_or m (shares_from + k) 0) (λ k. get_or l (shares_from + k) 0) 128
          (λ k g. e (shares_from + k) (omega arith) (omega arith)),
      d,
    )
