-- A board's lines written one behind another, and how many bytes they take.
-- Assumes nothing.
use Rattle.std.specs.Prelude.{Option, Some, None, option_to_list}
use mathlib.Core.List.{List, [], ◌∷◌, ◌++◌, append-nil}
use mathlib.Core.Path.{◌≡◌, refl, ap}
use Prim.Native.Nat.{ℕ, zero, suc, ◌+◌, ◌*◌, ◌/◌, ◌%◌, ◌≤◌, ◌<◌}
use native.Mathlib.Nat.{mul-suc}
use native.Mathlib.Omega.{arith}
use lib.ListN.{length, get_or, length-append}
use borrow.Author.Tests.{lt-ltb, le-ltb, ne_eqb}
use Rattle.common_laws.specs.Lists.{gather, table}
use Rattle.common_laws.proofs.TableLaws.{below_suc}
use Rattle.common_text.specs.declared.Writer.{Writer}
use Rattle.common_text.specs.Code.Scanning.{Put, Wrote}
use Rattle.common_text.proofs.Puts.{wrote_then, put_front}
use Rattle.description_board.specs.declared.Board.{Board}
use Rattle.description_board.specs.declared.Item.{Item}
use Rattle.description_board.specs.declared.Item.TheVariants.{ShareLine}
use Rattle.description_board.specs.Items.{master_item, slave_item, share_item, default_item, items, board_refusal}
use Rattle.description_board.proofs.Accepted.{accepted_legal}
use Rattle.description_board.proofs.ItemLaws.{line_none, line_some}
use Rattle.description_check.specs.Code.Entries.{entry_count, line_at, lines_to}
use Rattle.description_check.proofs.EntryLaws.{lines_all, lines_next}
use Rattle.description_lines.specs.Writer.{item_text, items_text}
use Rattle.description_lines.proofs.WriteLaws.{line_room, item_fits, text_append, text_one, length_text}
use Rattle.description.specs.Writer.{Written, write_text, write_refusal, write_answer, write_output}

-- The lines of the numbers below n.
module _ (f : ℕ → List Item) where
  pub gather_room : (n i : ℕ) → i < n → length (items_text (gather f i)) + length (items_text (f i)) ≤ length
      (items_text (gather f n))
  unfolding gather
  gather_room zero i h = absurd (omega arith)
  gather_room (suc n) i h =
      below_suc {P = λ j. length (items_text (gather f j)) + length (items_text (f j)) ≤ length (items_text (gather f (suc n)))} n
      (λ j l. omega (arith, gather_room n j l, length_text (gather f n) (f n)))
      (omega (arith, length_text (gather f n) (f n)))
      i h

  pub gather_most : (k n : ℕ) → ((i : ℕ) → i < n → length (items_text (f i)) ≤ k) → length (items_text (gather f n)) ≤ k * n
  unfolding gather items_text
  gather_most k zero h = omega arith
  gather_most k (suc n) h =
      omega (
        arith,
        mul-suc k n,
        length_text (gather f n) (f n),
        gather_most k n (λ i l. h i (omega arith)),
        h n (omega arith),
      )

-- the same where each number has one line
module _ (f : ℕ → Item) where
  pub lines_most : (k n : ℕ) → ((i : ℕ) → i < n → length (item_text (f i)) ≤ k) → length (items_text (table f n)) ≤ k * n
  unfolding table
  lines_most k n h = gather_most (λ j. f j ∷ []) k n (λ i l. rw text_one (h i l))

-- a pair's line, where there is one
module _ (shares : List ℕ) (i : ℕ) where
  pub pair_none : get_or shares i 0 ≡ 0 → items_text (share_item shares i) ≡ []
  unfolding items_text
  pair_none h = rw (line_none shares i h)

  pub pair_some : (get_or shares i 0 ≡ 0 → ⊥) → items_text (share_item shares i) ≡ item_text
      (ShareLine (i / 16) (i % 16) (get_or shares i 0))
  pair_some h = rw (line_some shares i h) (text_one (ShareLine (i / 16) (i % 16) (get_or shares i 0)))

-- the text of an entry, with a line or without, is short
entry_fits : (x : Option Item) → length (items_text (option_to_list x)) ≤ line_room
unfolding items_text
entry_fits None = omega arith
entry_fits (Some x) = rw (text_one x) (item_fits x)

-- an accepted board has at most 8 masters and 16 slaves
pub few_places : (b : Board) → board_refusal b ≡ 0 → entry_count b ≤ 153
few_places b e = let l = accepted_legal b e in omega (arith, l.few_masters, l.few_slaves)

-- The text of a board entry by entry.
module _ (b : Board) where
  pub text_all : (k : ℕ) → k ≡ entry_count b → items_text (lines_to b k) ≡ write_text b
  unfolding write_text
  text_all k e = rw (e, lines_all b)

  -- an entry with no line has no bytes
  pub no_line : (k : ℕ) (r : Option Item) → r ≡ line_at b k → ((x : Item) → r ≡ Some x → ⊥)
      → items_text (lines_to b (k + 1)) ≡ items_text (lines_to b k)
  no_line k None e h = rw (lines_next b k, ← e, append-nil (lines_to b k))
  no_line k (Some x) e h = absurd (h x refl)

  pub lines_fit : (k : ℕ) → length (items_text (lines_to b k)) ≤ line_room * k
  unfolding lines_to
  lines_fit k = gather_most (λ j. option_to_list (line_at b j)) line_room k (λ i l. entry_fits (line_at b i))

  -- an entry with a line
  module _ (k : ℕ) {x : Item} (e : Some x ≡ line_at b k) where
    text_next : items_text (lines_to b (k + 1)) ≡ items_text (lines_to b k) ++ item_text x
    text_next = rw (lines_next b k, ← e, text_append (lines_to b k) (x ∷ []), text_one x)

    pub length_next : length (items_text (lines_to b (k + 1))) ≡ length (items_text (lines_to b k)) + length (item_text x)
    length_next = rw text_next (length-append (items_text (lines_to b k)) (item_text x))

    pub room_next : k < entry_count b → length (items_text (lines_to b k)) + length (item_text x) ≤ length (write_text b)
    unfolding lines_to
    room_next h =
        rw (← e, text_one x, text_all (entry_count b) refl) at (gather_room (λ j. option_to_list (line_at b j)) (entry_count b) k h)

    pub wrote_next : {u v w : Writer} → Wrote u (items_text (lines_to b k)) v → Wrote v (item_text x) w
        → Wrote u (items_text (lines_to b (k + 1))) w
    wrote_next y z = rw text_next (wrote_then y z)

-- a board's text in four parts
module _ (b : Board) where
  pub text_parts :
      write_text b
      ≡ items_text (table (master_item b.masters) b.master_count)
      ++ (items_text (table (slave_item b.slaves) b.slave_count)
      ++ (items_text (gather (share_item b.shares) 128) ++ items_text (default_item b.default_line)))
  unfolding write_text items
  text_parts = rw (text_append, text_append, text_append)

  pub length_parts :
      length (write_text b)
      ≡ length (items_text (table (master_item b.masters) b.master_count))
      + length (items_text (table (slave_item b.slaves) b.slave_count))
      + length (items_text (gather (share_item b.shares) 128))
      + length (items_text (default_item b.default_line))
  length_parts = rw text_parts (simp length-append (omega arith))

-- what is promised of the answer r and of the output after
abbrev pub Writes : Board → List ℕ → Written → List ℕ → Type 0
Writes b out r after = (r ≡ write_answer b out) × (after ≡ write_output b out)

-- the three ways that a write ends
module _ (b : Board) (out : List ℕ) where
  pub board_refused : (n : ℕ) → n ≡ board_refusal b → (n ≡ 0 → ⊥) → Writes b out (record { number = n; length = 0 }) out
  unfolding write_answer write_output write_refusal
  board_refused n e h = rw (← e, ne_eqb n 0 h, ne_eqb n 0 h) (refl, refl)

  module _ (e : board_refusal b ≡ 0) where
    pub room_refused : length out < length (write_text b) → Writes b out (record { number = 10; length = 0 }) out
    unfolding write_answer write_output write_refusal
    room_refused h = rw (e, lt-ltb (length out) (length (write_text b)) h) (refl, refl)

    pub text_written :
        (after : List ℕ) (end : ℕ) → length (write_text b) ≤ length out → Put out 0 (write_text b) after end
        → Writes b out (record { number = 0; length = end }) after
    unfolding write_answer write_output write_refusal
    text_written after end h p =
        let n : end ≡ length (write_text b) = omega (arith, p.end) in
        rw (e, le-ltb (length out) (length (write_text b)) h)
        (ap (λ (k : ℕ). record { number = 0; length = k }) n, put_front p h)
