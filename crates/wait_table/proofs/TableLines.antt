-- The lines of the table: one pair's, and line after line; what is kept of slave after slave.
-- Assumes nothing.
use mathlib.Core.Path.{◌≡◌}
use mathlib.Core.List.{List, []}
use Prim.Native.Nat.{ℕ, ◌+◌, ◌≤◌, ◌<◌}
use native.Mathlib.Decide.{ℕ_discrete}
use native.Mathlib.Omega.{arith}
use lib.ListN.{length, get_or, set}
use lib.Seq.{get_or-set_same, get_or-set_other}
use borrow.Author.Tests.{lt-ltb}
use Rattle.common_laws.specs.Lists.{gather}
use Rattle.common_laws.proofs.ListLaws.{gather_suc}
use Rattle.common_text.specs.declared.Writer.{Writer}
use Rattle.common_text.specs.Code.Scanning.{HasRoom, Wrote}
use Rattle.common_text.proofs.Puts.{wrote_then, put_length}
use Rattle.description_board.specs.declared.Board.{Board}
use Rattle.description_board.specs.Records.{shares_at, connected}
use Rattle.wait_turns.specs.declared.Quote.{Quote}
use Rattle.wait_turns.specs.declared.Turns.{Turns}
use Rattle.wait_turns.specs.Code.Pairs.{PairOf, figures_of, slave_turns}
use Rattle.wait_table.specs.Tables.{pair_line, pair_lines}
use Rattle.wait_table.specs.Code.PairLines.{quote_line, master_lines, Summed}
use Rattle.wait_turns.proofs.SumLaws.{gather_room}

-- a pair that is not connected has no line
module _ (b : Board) (m s : ℕ) (x : PairOf b m s) {n : ℕ} (e : n ≡ shares_at b m s) where
  pub line_none : n ≡ 0 → pair_line b m s ≡ []
  unfolding pair_line connected
  line_none z = rw (lt-ltb s b.slave_count x.slave, ← e, z)

  pub line_some : {q : Quote} → (n ≡ 0 → ⊥) → q ≡ figures_of b m s → pair_line b m s ≡ quote_line m s q
  unfolding pair_line connected quote_line figures_of
  line_some z f = rw (lt-ltb s b.slave_count x.slave, ← e, lt-ltb 0 n (omega arith), f)

-- piece after piece: the first i are written
module _ (f : ℕ → List ℕ) (i : ℕ) {u v : Writer} (x : Wrote u (gather f i) v) where
  -- the room that is left for one more of n
  pub piece_room : (n : ℕ) → i < n → HasRoom u (gather f n) → HasRoom v (f i)
  piece_room n h l = omega (arith, x.put.end, put_length x.put, gather_room f i n h, l)

  pub piece_next : {w : Writer} → Wrote v (f i) w → Wrote u (gather f (i + 1)) w
  piece_next y = rw (gather_suc f i) (wrote_then x y)

-- the lines of all pairs are those of each master
module _ (b : Board) where
  pub pairs_wrote : {u v : Writer} {m : ℕ} → Wrote u (gather (master_lines b) m) v → m ≡ b.master_count
      → Wrote u (pair_lines b) v
  unfolding pair_lines master_lines
  pairs_wrote x e = rw e at x

  pub pairs_room : {u v : Writer} {m : ℕ} → Wrote u (gather (master_lines b) m) v → m < b.master_count
      → HasRoom u (pair_lines b) → HasRoom v (master_lines b m)
  unfolding pair_lines master_lines
  pairs_room {m = m} x h l = piece_room (master_lines b) m x b.master_count h l

  -- those of a master are complete with its last slave
  pub lines_wrote : (m : ℕ) {u v : Writer} {s : ℕ} → Wrote u (gather (pair_line b m) s) v → s ≡ b.slave_count
      → Wrote u (master_lines b m) v
  unfolding master_lines
  lines_wrote m x e = rw e at x

  pub lines_room : (m : ℕ) {u v : Writer} {s : ℕ} → Wrote u (gather (pair_line b m) s) v → s < b.slave_count
      → HasRoom u (master_lines b m) → HasRoom v (pair_line b m s)
  unfolding master_lines
  lines_room m {s = s} x h l = piece_room (pair_line b m) s x b.slave_count h l

  -- no slave yet, and one more
  pub summed_none : {turns : List Turns} → Summed b 0 turns
  summed_none = record { at = λ s h t. absurd (omega arith) }

  pub summed_next : (s : ℕ) {turns : List Turns} {t : Turns} → Summed b s turns → t ≡ slave_turns b s → s < length turns
      → Summed b (s + 1) (set turns s t)
  summed_next s {turns} {t} x e h = record { at = λ k d u. go k d u (ℕ_discrete k s) }
    where
      go : (k : ℕ) → k < s + 1 → (u : Turns) → Dec (k ≡ s) → get_or (set turns s t) k u ≡ slave_turns b k
      go k d u (yes q) = rw (q, get_or-set_same turns s t u h) e
      go k d u (no q) = rw (get_or-set_other turns s k t u q) (x.at k (omega arith) u)

  pub summed_all : {turns : List Turns} {s : ℕ} → Summed b s turns → s ≡ b.slave_count → Summed b b.slave_count turns
  summed_all x e = rw e at x
