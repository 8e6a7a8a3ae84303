-- An answer fits its room: the line of the number is short, and the writer stays within what it is lent.
-- Assumes nothing.
use mathlib.Core.Bool.{Bool, true, false, cond, not}
use mathlib.Core.List.{List, [], ◌∷◌}
use mathlib.Core.Path.{◌≡◌, refl, ap, ◌∙◌}
use Prim.Native.Nat.{ℕ, ◌+◌, ◌-◌, ◌≤◌}
use native.Mathlib.Omega.{arith}
use lib.Dec.{eqb, ltb}
use lib.ListN.{length, take, drop, length-take}
use borrow.Author.Tests.{ltb-false}
use Rattle.common_text.specs.Digits.{line_text}
use Rattle.common_text.proofs.Decimal.{line_length, fields_long}
use Rattle.description_board.specs.declared.Board.{Board}
use Rattle.description_board.specs.Items.{board_refusal}
use Rattle.common_numbers.specs.Refusals.{answer_or}
use Rattle.common_numbers.specs.declared.Refusal.{Refusal}
use Rattle.description.specs.Writer.{Written, written_of, write_text, write_refusal, write_answer}
use Rattle.std.specs.Prelude.{Result, Ok, Err}
use Rattle.std.specs.Result.{result_unwrap_or}

-- a line of one number behind a word of four bytes
pub line_short : (word : List ℕ) (n : ℕ) → length word ≡ 4 → length (line_text word (n ∷ [])) ≤ 26
line_short word n e = omega (arith, line_length word (n ∷ []), fields_long (n ∷ []))

-- what is written is no longer than the output
written_within : (b : Board) (out : List ℕ) → (write_answer b out).length ≤ length out
unfolding write_answer write_refusal
written_within b out = go (board_refusal b) (eqb (board_refusal b) 0) (ltb (length out) (length (write_text b))) refl refl
  where
    go :
        (n : ℕ) (e t : Bool) → eqb n 0 ≡ e → ltb (length out) (length (write_text b)) ≡ t
        → cond (eqb (cond (not e) n (cond t 10 0)) 0) (length (write_text b)) 0 ≤ length out
    go n true true p q = omega arith
    go n true false p q = ltb-false _ _ q
    go n false t p q = rw p (omega arith)

-- the same of an output that is lent from `next` on
pub part_written :
    (b : Board) (out : List ℕ) (next : ℕ) (r : Result ℕ Refusal) (n : ℕ)
    → written_of r ≡ write_answer b (take (length out - next) (drop next out)) → n ≡ result_unwrap_or r 0 → next ≤ length out
    → next + n ≤ length out
part_written b out next r n e u h =
    let part : List ℕ = take (length out - next) (drop next out) in
    let l : length part ≤ length out - next = rw length-take (omega arith) in
    omega (arith, u ∙ value r, ap (λ (x : Written). x.length) e, written_within b part)
  where
    value : (r : Result ℕ Refusal) → result_unwrap_or r 0 ≡ answer_or 0 r
    value (Ok x) = refl
    value (Err e) = refl
