-- The quoted figures of a legal board fit 64 bits, and the 16 bytes of a wait call spell them.
-- Assumes nothing.
use mathlib.Core.Path.{◌≡◌, sym, ap, ◌∙◌}
use mathlib.Core.List.{List, ◌++◌, append_assoc}
use Prim.Native.Nat.{ℕ, zero, suc, ◌+◌, ◌*◌, ◌/◌, ◌%◌, ◌^◌, ◌<◌}
use native.Mathlib.Nat.{mul_assoc, mul_comm, add-mul, pow-suc, div-add-mod', div-div-eq-div-mul, mod-eq_of_lt}
use native.Mathlib.Omega.{arith}
use lib.ListN.{length, drop, get_or-append}
use lib.Seq.{drop_at}
use Rattle.common_laws.specs.Lists.{sum}
use Rattle.common_laws.proofs.FillLaws.{sum_same}
use Rattle.common_laws.proofs.TableLaws.{length_table, get_or_table}
use Rattle.description_board.specs.declared.Board.{Board}
use Rattle.description_board.specs.Legal.{Legal}
use Rattle.wait_turns.specs.Waits.{quoted_wait, serve_of}
use Rattle.wait.specs.Answers.{bytes64, spelled, pair_bytes}
use Rattle.wait_turns.proofs.FigureBounds.{wait_small, serve_small}

-- the figures of a legal board fit 64 bits
module _ (b : Board) (legal : Legal b) (m s : ℕ) (hm : m < b.master_count) (hs : s < b.slave_count) where
  pub wait_fits : quoted_wait b m s < 2 ^ 64
  wait_fits = omega (arith, wait_small b legal s hs m hm)

  pub serve_fits : serve_of b m s < 2 ^ 64
  serve_fits = omega (arith, serve_small b legal s hs m hm)

-- one byte more of a number
mod_more : (n b : ℕ) → n % (b * 256) ≡ n % b + n / b % 256 * b
mod_more n b =
    let q = n / b in
    let p = q / 256 in
    let e : n / (b * 256) ≡ p = sym (div-div-eq-div-mul n b 256) in
    let f : n / (b * 256) * (b * 256) ≡ p * 256 * b =
    rw (e, mul_comm b 256) (sym (mul_assoc p 256 b)) in
    omega (
      arith,
      div-add-mod' n (b * 256),
      f,
      div-add-mod' n b,
      ap (λ (x : ℕ). x * b) (div-add-mod' q 256),
      add-mul (p * 256) (q % 256) b,
    )

low_bytes : (n k : ℕ) → sum (λ i. n / 256 ^ i % 256 * 256 ^ i) k ≡ n % 256 ^ k
unfolding sum
low_bytes n zero = omega arith
low_bytes n (suc k) = rw (low_bytes n k, pow-suc 256 k) (sym (mod_more n (256 ^ k)))

bytes_length : (n : ℕ) → length (bytes64 n) ≡ 8
unfolding bytes64
bytes_length n = length_table (λ i. n / 256 ^ i % 256) 8

-- a number's 8 bytes spell it, whatever stands behind them
module _ (n : ℕ) (h : n < 2 ^ 64) where
  pub bytes_spell : spelled (bytes64 n) ≡ n
  unfolding bytes64
  bytes_spell =
      sum_same _ (λ i. n / 256 ^ i % 256 * 256 ^ i) 8
      (λ i l. ap (λ (x : ℕ). x * 256 ^ i) (get_or_table (λ j. n / 256 ^ j % 256) 8 0 i l))
      ∙ low_bytes n 8
      ∙ mod-eq_of_lt h

  front_spells : (rest : List ℕ) → spelled (bytes64 n ++ rest) ≡ n
  front_spells rest =
      sum_same _ _ 8
      (λ i l. ap (λ (x : ℕ). x * 256 ^ i) (get_or-append (bytes64 n) rest 0 i (rw (bytes_length n) l)))
      ∙ bytes_spell

-- so the front of what a wait call wrote spells the wait, and what follows the serve
module _ (b : Board) (m s : ℕ) (rest : List ℕ) where
  pub wait_spelled : quoted_wait b m s < 2 ^ 64 → spelled (pair_bytes b m s ++ rest) ≡ quoted_wait b m s
  unfolding pair_bytes
  wait_spelled h = rw append_assoc (front_spells (quoted_wait b m s) h (bytes64 (serve_of b m s) ++ rest))

  pub serve_spelled : serve_of b m s < 2 ^ 64 → spelled (drop 8 (pair_bytes b m s ++ rest)) ≡ serve_of b m s
  unfolding pair_bytes
  serve_spelled h =
      let w = bytes64 (quoted_wait b m s) in
      let v = bytes64 (serve_of b m s) in
      let e : drop 8 ((w ++ v) ++ rest) ≡ v ++ rest =
      rw append_assoc (drop_at w (v ++ rest) 8 (bytes_length (quoted_wait b m s))) in
      ap spelled e ∙ front_spells (serve_of b m s) h rest
