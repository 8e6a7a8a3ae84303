-- The two calls that look up a wait, path by path.
-- Assumes nothing.
use mathlib.Core.Path.{◌≡◌, sym, ◌∙◌}
use mathlib.Core.Bool.{true, false, not}
use mathlib.Core.List.{List, ◌++◌}
use Prim.Native.Nat.{ℕ, ◌≤◌, ◌<◌}
use native.Mathlib.Nat.{div-one}
use native.Mathlib.Omega.{arith}
use lib.ListN.{length}
use lib.Dec.{leb, ltb, eqb}
use Rattle.std.specs.Int.{w64, to_le_bytes}
use borrow.Author.Tests.{ne_eqb, lt-ltb, le-ltb, le-leb, lt-leb, leb-false, ltb-true, not-false}
use Rattle.common_laws.specs.Lists.{table, gather}
use Rattle.common_laws.proofs.Tests.{both, passed}
use Rattle.common_numbers.specs.Refusals.{refusal_number}
use Rattle.common_numbers.specs.declared.Refusal.{Refusal}
use Rattle.common_numbers.proofs.RefusalLaws.{refusal_not_zero}
use Rattle.common_text.specs.Code.Scanning.{Put}
use Rattle.common_text.proofs.Puts.{put_front, put_then}
use Rattle.description_board.specs.declared.Board.{Board}
use Rattle.description_board.specs.Records.{shares_at, connected}
use Rattle.description_board.specs.Items.{board_refusal}
use Rattle.description_board.specs.Legal.{Legal}
use Rattle.description_board.proofs.Accepted.{accepted_legal}
use Rattle.description.specs.Reader.{read_text}
use Rattle.wait_turns.specs.declared.Quote.{Quote}
use Rattle.wait.specs.Answers.{bytes64, pair_bytes, pair_refusal, wait_refusal, wait_output}
use Rattle.wait_turns.specs.Waits.{quoted_wait, serve_of}
use Rattle.wait_turns.specs.Code.Pairs.{PairOf, figures_of}
use Rattle.wait.specs.Calls.{quote_refusal, quote_of}

-- std's bytes of a number are those of rule 5.8
le_bytes : (n : ℕ) → to_le_bytes w64 n ≡ bytes64 n
unfolding bytes64 table gather
le_bytes n = rw (div-one n)

-- the bytes of two numbers, one after the other
pub figures_put : (wait serve : ℕ) {w v o p q : List ℕ} {r t : ℕ} → w ≡ to_le_bytes w64 wait → v ≡ to_le_bytes w64 serve
    → Put o 0 w p r → Put p r v q t → Put o 0 (bytes64 wait ++ bytes64 serve) q t
figures_put wait serve e f x y = put_then (rw (e ∙ le_bytes wait) at x) (rw (f ∙ le_bytes serve) at y)

pub board_accepted : (b : Board) → 0 ≡ board_refusal b → Legal b
board_accepted b z = accepted_legal b (sym z)

-- the pair of a look-up
module _ (b : Board) (m s : ℕ) where
  pub pair_past : b.master_count ≤ m → 11 ≡ pair_refusal b m s
  unfolding pair_refusal
  pair_past h = rw (le-leb b.master_count m h)

  pub pair_master : pair_refusal b m s ≡ 0 → m < b.master_count
  unfolding pair_refusal
  pair_master e = leb-false b.master_count m (passed (leb b.master_count m) 10 _ e).0

  pub pair_known : pair_refusal b m s ≡ 0 → s < b.slave_count
  unfolding pair_refusal connected
  pair_known e =
      let p = passed (leb b.master_count m) 10 _ e in
      let q = passed (not (connected b m s)) 15 0 p.1 in
      ltb-true s b.slave_count (both (ltb s b.slave_count) _ (not-false (connected b m s) q.0)).0

  -- a pair that is not refused has figures
  pub pair_of : Legal b → 0 ≡ pair_refusal b m s → PairOf b m s
  pair_of legal z = record { legal = legal; master = pair_master (sym z); slave = pair_known (sym z) }

  pub pair_accepted : 0 ≡ board_refusal b → 0 ≡ pair_refusal b m s → PairOf b m s
  pair_accepted z h = pair_of (board_accepted b z) h

  module _ (known : m < b.master_count) where
    pub pair_outside : b.slave_count ≤ s → 16 ≡ pair_refusal b m s
    unfolding pair_refusal connected
    pair_outside h = rw (lt-leb b.master_count m known, le-ltb s b.slave_count h)

    module _ (inside : s < b.slave_count) {n : ℕ} (f : n ≡ shares_at b m s) where
      pub pair_apart : n ≡ 0 → 16 ≡ pair_refusal b m s
      unfolding pair_refusal connected
      pair_apart h = rw (lt-leb b.master_count m known, lt-ltb s b.slave_count inside, ← f, h)

      pub pair_found : (n ≡ 0 → ⊥) → 0 ≡ pair_refusal b m s
      unfolding pair_refusal connected
      pair_found h =
          rw (lt-leb b.master_count m known, lt-ltb s b.slave_count inside, ← f, lt-ltb 0 n (omega arith))

-- no refusal has the number 0
refused : (e : Refusal) → eqb (refusal_number e) 0 ≡ false
refused e = ne_eqb (refusal_number e) 0 (refusal_not_zero e)

-- a look-up on a board
module _ (b : Board) (m s : ℕ) where
  pub quote_board : (e : Refusal) → refusal_number e ≡ board_refusal b
      → record { number = refusal_number e; wait = 0; serve = 0 } ≡ quote_of b m s
  unfolding quote_of quote_refusal
  quote_board e h = rw (← h, refused e, refused e)

  pub quote_pair : (e : Refusal) → 0 ≡ board_refusal b → refusal_number e ≡ pair_refusal b m s
      → record { number = refusal_number e; wait = 0; serve = 0 } ≡ quote_of b m s
  unfolding quote_of quote_refusal
  quote_pair e z h = rw (← z, ← h, refused e)

  pub quote_taken : 0 ≡ board_refusal b → 0 ≡ pair_refusal b m s → {q : Quote} → q ≡ figures_of b m s
      → record { number = 0; wait = q.wait; serve = q.serve } ≡ quote_of b m s
  unfolding quote_of quote_refusal figures_of
  quote_taken z h r = rw (← z, ← h, r)

-- a connected pair of an accepted board has its figures
pub quote_connected : (b : Board) (m s : ℕ) → board_refusal b ≡ 0 → m < b.master_count → connected b m s ≡ true
    → quote_of b m s ≡ record { number = 0; wait = quoted_wait b m s; serve = serve_of b m s }
unfolding quote_of quote_refusal pair_refusal
quote_connected b m s ok h e = rw (ok, lt-leb b.master_count m h, e)

-- the wait call, from what the reader answers
module _ (text : List ℕ) (m s : ℕ) (out : List ℕ) where
  -- a refusal leaves the bytes
  pub output_kept : (e : Refusal) → refusal_number e ≡ wait_refusal text m s out → out ≡ wait_output text m s out
  unfolding wait_output
  output_kept e h = rw (← h, refused e)

  pub wait_text : (e : Refusal) → refusal_number e ≡ (read_text text).number → refusal_number e ≡ wait_refusal text m s out
  unfolding wait_refusal
  wait_text e h = rw (← h, refused e)

  module _ (z : 0 ≡ (read_text text).number) where
    pub wait_short : length out < 16 → 10 ≡ wait_refusal text m s out
    unfolding wait_refusal
    wait_short h = rw (← z, lt-ltb (length out) 16 h)

    -- the board that was read
    module _ {b : Board} (x : b ≡ (read_text text).board) (room : 16 ≤ length out) where
      pub wait_pair : {k : ℕ} → k ≡ pair_refusal b m s → k ≡ wait_refusal text m s out
      unfolding wait_refusal
      wait_pair f = rw (← z, le-ltb (length out) 16 room, ← x) f

      -- not refused: the figures stand at the front
      pub wait_taken : 0 ≡ pair_refusal b m s → {q : Quote} → q ≡ figures_of b m s → {o : List ℕ} {t : ℕ}
          → Put out 0 (bytes64 q.wait ++ bytes64 q.serve) o t → o ≡ wait_output text m s out
      unfolding wait_output pair_bytes figures_of bytes64 table gather
      wait_taken f {q} g y = put_front y room ∙ rw (g, x, ← wait_pair f)
