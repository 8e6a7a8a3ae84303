-- How long a table can be, how a print ends, and the page that the table program prints.
-- Assumes nothing.
use mathlib.Core.Path.{◌≡◌, refl, ap, sym, ◌∙◌}
use mathlib.Core.Bool.{Bool, true, false, cond, not}
use mathlib.Core.List.{List, [], ◌∷◌, ◌++◌}
use Prim.Native.Nat.{ℕ, zero, suc, ◌+◌, ◌-◌, ◌*◌, ◌^◌, ◌≤◌, ◌<◌}
use native.Mathlib.Omega.{arith}
use lib.Dec.{ltb, eqb, lit≤}
use lib.ListN.{length, take, drop, length-append}
use lib.Seq.{take_at}
use borrow.Author.Tests.{ne_eqb, lt-ltb, le-ltb, ltb-true, ltb-false, eqb-true}
use Rattle.common_laws.specs.Bytes.{bytes_of}
use Rattle.common_laws.specs.Lists.{gather}
use Rattle.common_numbers.specs.Refusals.{refusal_number}
use Rattle.common_numbers.specs.declared.Refusal.{Refusal}
use Rattle.common_numbers.proofs.RefusalLaws.{refusal_not_zero}
use Rattle.common_text.specs.Digits.{digits, fields_text, line_text}
use Rattle.common_text.specs.Fields.{comma}
use Rattle.common_text.specs.Code.Scanning.{Put}
use Rattle.common_text.proofs.Decimal.{digits_small_length, digits_most, fields_long, line_length}
use Rattle.common_text.proofs.Puts.{put_front, put_length}
use Rattle.description_board.specs.declared.Board.{Board}
use Rattle.description_board.specs.Records.{connected}
use Rattle.description_board.specs.Legal.{Legal}
use Rattle.description.specs.Reader.{read_text}
use Rattle.description.proofs.Trip.{read_legal}
use Rattle.wait_turns.specs.Waits.{quoted_wait, serve_of}
use Rattle.wait_table.specs.Tables.{heading, pair_line, pair_lines, table_text, table_of}
use Rattle.wait_table.specs.Tables.{Printed, print_refusal, print_answer, print_output}
use Rattle.wait_table.specs.Tables.{refused_text, printed, page_output, Begins}
use Rattle.wait_table.specs.Longest.{longest_table}
use Rattle.wait_turns.proofs.SumLaws.{gather_le}
use Rattle.wait_turns.proofs.FigureBounds.{wait_small, serve_small}

-- a line: a master has one digit, a wait at most 7, a serve 6
line_long : (m s w v : ℕ) → m < 8 → w < 10 ^ 7 → v < 10 ^ 6
    → length (line_text (digits m) (s ∷ w ∷ v ∷ [])) ≤ 18 + length (digits s)
unfolding fields_text
line_long m s w v hm hw hv =
    omega (
      arith,
      line_length (digits m) (s ∷ w ∷ v ∷ []),
      digits_most 0 m (omega arith),
      digits_most 6 w hw,
      digits_most 5 v hv,
      length-append (digits s) (comma ∷ (digits w ++ (comma ∷ (digits v ++ [])))),
      length-append (digits w) (comma ∷ (digits v ++ [])),
      length-append (digits v) [],
    )

-- a slave has one digit below 10, and from there on two
slave_digits : (s : ℕ) → s < 16 → length (digits s) + (s - 10) ≤ 1 + (suc s - 10)
slave_digits s h = go (ltb s 10) refl
  where
    go : (t : Bool) → ltb s 10 ≡ t → length (digits s) + (s - 10) ≤ 1 + (suc s - 10)
    go true e = omega (arith, ltb-true s 10 e, digits_small_length s (ltb-true s 10 e))
    go false e = omega (arith, ltb-false s 10 e, digits_most 1 s (omega arith))

-- the lines of a legal board
module _ (b : Board) (legal : Legal b) where
  pair_long : (m s : ℕ) → m < b.master_count → s < b.slave_count → length (pair_line b m s) ≤ 18 + length (digits s)
  unfolding pair_line
  pair_long m s hm hs = go (connected b m s)
    where
      go : (t : Bool)
          → length (cond t (line_text (digits m) (s ∷ quoted_wait b m s ∷ serve_of b m s ∷ [])) []) ≤ 18 + length (digits s)
      go true =
          line_long m s (quoted_wait b m s) (serve_of b m s) (omega (arith, legal.few_masters)) (wait_small b legal s hs m hm)
          (serve_small b legal s hs m hm)
      go false = omega arith

  -- of the first n slaves
  row_long : (m n : ℕ) → m < b.master_count → n ≤ b.slave_count → length (gather (pair_line b m) n) ≤ 19 * n + (n - 10)
  unfolding gather
  row_long m zero hm h = omega arith
  row_long m (suc n) hm h =
      omega (
        arith,
        length-append (gather (pair_line b m) n) (pair_line b m n),
        row_long m n hm (omega arith),
        pair_long m n hm (omega arith),
        slave_digits n (omega (arith, legal.few_slaves)),
      )

  pairs_long : length (pair_lines b) ≤ 8 * (10 * 19 + 6 * 20)
  unfolding pair_lines
  pairs_long =
      let row : (m : ℕ) → m < b.master_count → length (gather (pair_line b m) b.slave_count) ≤ 10 * 19 + 6 * 20 =
      λ m h. omega (arith, row_long m b.slave_count h (omega arith), legal.few_slaves) in
      omega (
        arith,
        legal.few_masters,
        gather_le (λ m. gather (pair_line b m) b.slave_count) (10 * 19 + 6 * 20) b.master_count row,
      )

heading_length : length heading ≡ 24
unfolding heading bytes_of
heading_length = refl

-- the table of a text that is not refused
pub table_long : (text : List ℕ) → (read_text text).number ≡ 0 → length (table_of text) ≤ longest_table
unfolding table_of table_text longest_table
table_long text none =
    omega (
      arith,
      length-append heading (pair_lines (read_text text).board),
      heading_length,
      pairs_long (read_text text).board (read_legal text refl none refl),
    )

-- an output of `longest_table` bytes has room for every table: `print_table` refuses what the reader refuses, and no more
print_room : (text out : List ℕ) → longest_table ≤ length out → print_refusal text out ≡ (read_text text).number
unfolding print_refusal
print_room text out h = go (eqb (read_text text).number 0) refl
  where
    go : (t : Bool) → eqb (read_text text).number 0 ≡ t
        → cond (not t) (read_text text).number (cond (ltb (length out) (length (table_of text))) 10 0) ≡ (read_text text).number
    go true e =
        let none = eqb-true _ _ e in
        let g : length (table_of text) ≤ length out = omega (arith, table_long text none) in
        rw (le-ltb (length out) (length (table_of text)) g) (sym none)
    go false e = refl

-- what is promised of the answer r and of the output after; the third part for an output of `most` bytes
abbrev pub Prints : List ℕ → List ℕ → Printed → List ℕ → Type 0
Prints text out r after = (r ≡ print_answer text out) × (after ≡ print_output text out)

abbrev pub Promised : List ℕ → List ℕ → ℕ → Printed → List ℕ → Type 0
Promised text out most r after =
    (r ≡ print_answer text out) × ((after ≡ print_output text out) × (most ≤ length out → r.number ≡ (read_text text).number))

-- the third part follows from the first
pub promised : (text out : List ℕ) (most : ℕ) {r : Printed} {after : List ℕ} → longest_table ≤ most → Prints text out r after
    → Promised text out most r after
unfolding print_answer
promised text out most l e =
    (e.0, (e.1, λ h. ap (λ (r : Printed). r.number) e.0 ∙ print_room text out (omega arith)))

-- a print of a refused text
module _ (text out : List ℕ) where
  pub refused_answer : (e : Refusal) → refusal_number e ≡ (read_text text).number
      → record { number = refusal_number e; length = 0 } ≡ print_answer text out
  unfolding print_answer print_refusal
  refused_answer e h =
      let some = ne_eqb (refusal_number e) 0 (refusal_not_zero e) in
      rw (← h, some, some)

  pub refused_output : 0 < (read_text text).number → out ≡ print_output text out
  unfolding print_output print_refusal
  refused_output h =
      let n = (read_text text).number in
      let some = ne_eqb n 0 (λ z. absurd (omega arith)) in
      rw (some, some)

-- the two ways that a print of another ends
module _ (text : List ℕ) {k : ℕ} (e : k ≡ (read_text text).number) where
  -- of the board that was read
  module _ (none : k ≡ 0) {b : Board} (f : b ≡ (read_text text).board) where
    accepted : (read_text text).number ≡ 0
    accepted = sym e ∙ none

    pub board_legal : Legal b
    board_legal = rw f (read_legal text refl accepted refl)

    table_is : table_text b ≡ table_of text
    unfolding table_of
    table_is = ap table_text f

    pub table_fits : length (table_text b) ≤ longest_table
    table_fits = omega (arith, ap length table_is, table_long text accepted)

    -- the page that the table is made on
    module _ {blank page : List ℕ} {n : ℕ} (x : Put blank 0 (table_text b) page n) (room : longest_table ≤ length page)
      where
        page_end : n ≡ length (table_of text)
        page_end = omega (arith, x.end, ap length table_is)

        pub page_within : n ≤ length page
        page_within = omega (arith, page_end, table_long text accepted)

        page_text : take n page ≡ table_of text
        page_text =
            ap (take n) (put_front x (omega (arith, put_length x, table_fits)))
            ∙ take_at (table_text b) _ n (sym (page_end ∙ ap length (sym table_is)))
            ∙ table_is

        module _ (out : List ℕ) where
          pub room_refused : length out < n → Prints text out (record { number = 10; length = 0 }) out
          unfolding print_answer print_output print_refusal
          room_refused h =
              let z = lt-ltb (length out) (length (table_of text)) (omega (arith, page_end)) in
              (rw (accepted, z), rw (accepted, z))

          pub table_printed : n ≤ length out → {copied : List ℕ} → copied ≡ take n page
              → Prints text out (record { number = 0; length = n }) (copied ++ drop n out)
          unfolding print_answer print_output print_refusal
          table_printed h e =
              let l : length (table_of text) ≤ length out = omega (arith, page_end) in
              let z = le-ltb (length out) (length (table_of text)) l in
              (rw (accepted, z, page_end), rw (accepted, z, e ∙ page_text, page_end) refl)

-- a list that begins with a text
pub begins : (text list before : List ℕ) (n : ℕ) → list ≡ text ++ drop (length text) before → n ≡ length text → Begins text list n
begins text list before n e l =
    let t : take n list ≡ text = ap (take n) e ∙ take_at text (drop (length text) before) n (sym l) in
    record {
      within = omega (arith, ap length e, length-append text (drop (length text) before));
      counted = l ∙ sym (ap length t);
      front = t;
    }

-- what is promised of the count n and of the page after
abbrev pub Paged : List ℕ → List ℕ → List ℕ → ℕ → Type 0
Paged text page after n = (n ≡ length (printed text)) × (after ≡ page_output text page)

-- so that the page begins with what is printed
pub page_begins : (text page after : List ℕ) (n : ℕ) → Paged text page after n → Begins (printed text) after n
unfolding page_output
page_begins text page after n x = begins (printed text) after page n x.1 x.0

-- what is printed is one text t, and the page has it at the front
paged : (text page : List ℕ) (t : List ℕ) {after : List ℕ} {n : ℕ} → printed text ≡ t → n ≡ length t
    → after ≡ t ++ drop (length t) page → Paged text page after n
unfolding page_output
paged text page t e l a = rw e (l, a)

-- a page of `most` bytes, and what a print made of it: the table, or nothing, and then the refusal's line has room
module _ (text page : List ℕ) (most : ℕ) {r : Printed} {after : List ℕ} (e : Promised text page most r after)
    (enough : longest_table ≤ most) (room : most ≤ length page) where
  number_read : r.number ≡ (read_text text).number
  number_read = e.1.1 room

  refusal_is : print_refusal text page ≡ r.number
  refusal_is = print_room text page (omega arith) ∙ sym number_read

  pub page_table : r.number ≡ 0 → Paged text page after r.length
  unfolding printed print_answer print_output
  page_table none =
      paged text page (table_of text)
      (rw (← number_read, none))
      (ap (λ (q : Printed). q.length) e.0 ∙ rw (refusal_is, none))
      (e.1.0 ∙ rw (refusal_is, none))

  module _ (some : r.number ≡ 0 → ⊥) where
    page_kept : after ≡ page
    unfolding print_output
    page_kept = e.1.0 ∙ rw (refusal_is, ne_eqb r.number 0 some)

    -- a line with a word of so many bytes and the number
    pub line_room_lem : (word : List ℕ) → length word ≤ 7 → 0 + length (line_text word (r.number ∷ [])) ≤ length after
    unfolding longest_table
    line_room_lem word h = omega (arith, ap length page_kept, line_length word (r.number ∷ []), fields_long (r.number ∷ []))

    pub page_refused : {o : List ℕ} {n : ℕ} → Put after 0 (line_text (bytes_of "refused") (r.number ∷ [])) o n
        → Paged text page o n
    unfolding printed refused_text bytes_of
    page_refused x =
        paged text page (refused_text r.number)
        (rw (← number_read, ne_eqb r.number 0 some))
        (omega (arith, x.end))
        (put_front x (omega (arith, line_room_lem (bytes_of "refused") (lit≤ tt)))
        ∙ ap (λ (b : List ℕ). refused_text r.number ++ drop (length (refused_text r.number)) b) page_kept)
