-- The table of an accepted board names every master of the board (rules 5.9, 7.20).
-- Assumes nothing.
use mathlib.Core.Path.{◌≡◌, refl}
use mathlib.Core.Bool.{Bool, true, false, cond, or-true}
use mathlib.Core.List.{List, [], ◌∷◌, ◌++◌, append_assoc, append-nil}
use Prim.Native.Nat.{ℕ, zero, suc, ◌<◌}
use native.Mathlib.Decide.{ℕ_discrete}
use native.Mathlib.Omega.{arith}
use borrow.Author.Tests.{eq-eqb}
use Rattle.common_laws.specs.Bytes.{bytes_of}
use Rattle.common_laws.specs.Lists.{member, gather}
use Rattle.common_laws.proofs.TextLists.{same_refl}
use Rattle.common_text.specs.Digits.{digits, line_text}
use Rattle.common_text.specs.Fields.{comma, line_feed, split}
use Rattle.common_text.proofs.Decimal.{member_digits}
use Rattle.common_text.proofs.Round.{split_piece, split_fields, split_line}
use Rattle.description_board.specs.declared.Board.{Board}
use Rattle.description_board.specs.Records.{connected}
use Rattle.description_board.specs.Items.{board_refusal}
use Rattle.description_board.proofs.EndLaws.{share_slave}
use Rattle.description_board.proofs.PairLaws.{connected_pair}
use Rattle.description_board.proofs.Accepted.{accepted_legal}
use Rattle.description.specs.Reader.{read_text}
use Rattle.description.proofs.Trip.{read_accepted}
use Rattle.wait_turns.specs.Waits.{quoted_wait, serve_of}
use Rattle.wait_table.specs.Tables.{heading, pair_line, pair_lines, table_text, table_of, printed}
use Rattle.wait_table.specs.Named.{first_field, some_line, names_master}

-- a field that is the first of a line of a text
abbrev Found : List ℕ → List ℕ → Type 0
Found field text = some_line field (split line_feed text) ≡ true

-- whole lines: what is found behind them is found with them
record Whole (field front : List ℕ) : Type 0 where
  on : (rest : List ℕ) → Found field rest → Found field (front ++ rest)

module _ (field : List ℕ) where
  whole_none : Whole field []
  whole_none = record { on = λ rest h. h }

  whole_append : (xs ys : List ℕ) → Whole field xs → Whole field ys → Whole field (xs ++ ys)
  whole_append xs ys p q = record { on = λ rest h. rw append_assoc (p.on (ys ++ rest) (q.on rest h)) }

  whole_line : (word ns : List ℕ) → member line_feed word ≡ false → Whole field (line_text word ns)
  unfolding some_line
  whole_line word ns e = record { on = λ rest h. rw (split_line word ns rest e, h, or-true) }

  whole_gather : (f : ℕ → List ℕ) → ((i : ℕ) → Whole field (f i)) → (n : ℕ) → Whole field (gather f n)
  unfolding gather
  whole_gather f h zero = whole_none
  whole_gather f h (suc n) = whole_append (gather f n) (f n) (whole_gather f h n) (h n)

  -- the lines of one number are those that have the field: so have the lines of all
  found_gather : (f : ℕ → List ℕ) → ((i : ℕ) → Whole field (f i)) → (i : ℕ) → ((rest : List ℕ) → Found field (f i ++ rest))
      → (n : ℕ) → i < n → (rest : List ℕ) → Found field (gather f n ++ rest)
  unfolding gather
  found_gather f h i here zero l rest = absurd (omega arith)
  found_gather f h i here (suc n) l rest =
      rw append_assoc (go (ℕ_discrete i n) (λ k. found_gather f h i here n k (f n ++ rest)))
    where
      go : Dec (i ≡ n) → (i < n → Found field (gather f n ++ (f n ++ rest))) → Found field (gather f n ++ (f n ++ rest))
      go (yes e) before = (whole_gather f h n).on (f n ++ rest) (rw e at (here rest))
      go (no e) before = before (omega arith)

-- a line is found by its own first field
found_line : (m : ℕ) (ns rest : List ℕ) → Found (digits m) (line_text (digits m) ns ++ rest)
unfolding some_line first_field
found_line m ns rest =
    rw (
      split_line (digits m) ns rest (member_digits line_feed m (omega arith)),
      split_fields (digits m) ns (member_digits comma m (omega arith)),
      same_refl (digits m),
    )

module _ (b : Board) (field : List ℕ) where
  whole_pair : (m s : ℕ) → Whole field (pair_line b m s)
  unfolding pair_line
  whole_pair m s = go (connected b m s)
    where
      go : (c : Bool) → Whole field (cond c (line_text (digits m) (s ∷ quoted_wait b m s ∷ serve_of b m s ∷ [])) [])
      go true = whole_line field (digits m) _ (member_digits line_feed m (omega arith))
      go false = whole_none field

  whole_heading : Whole field heading
  unfolding heading bytes_of member some_line
  whole_heading = record {
    on = λ rest h. rw (split_piece line_feed (bytes_of "master,slave,wait,serve") rest refl, h, or-true);
  }

module _ (b : Board) (accepted : board_refusal b ≡ 0) (m : ℕ) (there : m < b.master_count) where
  -- the line of one of its slaves
  found_slave : (rest : List ℕ) → Found (digits m) (gather (pair_line b m) b.slave_count ++ rest)
  unfolding pair_line
  found_slave rest =
      let h = share_slave b m ((accepted_legal b accepted).connects m there) in
      found_gather (digits m) (pair_line b m) (whole_pair b (digits m) m) h.0
      (λ r. rw h.2 (found_line m _ r)) b.slave_count (connected_pair b m h.0 h.2).0 rest

  pub table_names : names_master m (table_text b) ≡ true
  unfolding names_master table_text pair_lines
  table_names =
      let rows : Found (digits m) (pair_lines b ++ []) =
      found_gather (digits m) (λ k. gather (pair_line b k) b.slave_count)
      (λ k. whole_gather (digits m) (pair_line b k) (whole_pair b (digits m) k) b.slave_count)
      m found_slave b.master_count there [] in
      (whole_heading b (digits m)).on (pair_lines b) (rw append-nil at rows)

-- what is printed for a text that is not refused names every master of its board
pub printed_names : (text : List ℕ) → (read_text text).number ≡ 0 → (m : ℕ) → m < (read_text text).board.master_count
    → names_master m (printed text) ≡ true
unfolding printed table_of
printed_names text e m there = rw (eq-eqb _ _ e) (table_names (read_text text).board (read_accepted text e) m there)
