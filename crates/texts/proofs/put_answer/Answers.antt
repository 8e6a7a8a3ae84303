-- `texts::put_answer` stays within the output: the line of the number is short, and the writer keeps to its part. Assumes
-- nothing.
use mathlib.Core.List.{List, [], ◌∷◌}
use mathlib.Core.Path.{refl}
use Prim.Native.Nat.{ℕ, ◌≤◌}
use lib.ListN.{length}
use native.Mathlib.Omega.{arith}
use borrow.Author.Rules.{rules}
use Rattle.common_text.proofs.Puts.{put_length}
use Rattle.texts.proofs.AnswerLaws.{line_short, part_written}
use Rattle.texts.proofs.put_answer.Goals.{After-put_line}
use Rattle.texts.proofs.put_answer.Goals as goal

-- the line's word, "read"
abbrev word : List ℕ
word = 114 ∷ 101 ∷ 97 ∷ 100 ∷ []

pub put_line-requires : goal.put_line-requires
put_line-requires c = omega (arith, line_short word 0 refl)

pub put_line-requires-in-Err : goal.put_line-requires-in-Err
put_line-requires-in-Err c = omega (arith, line_short word c.from.result refl)

-- the line of the number stands within the output
line_end : (c : After-put_line) → c.put_line.new.self.at ≤ length c.put_line.new.self.out.now
line_end c =
    let e = c.put_line.ensures.put in
    omega (arith, e.end, put_length e, line_short word 0 refl)

pub slice_bounds-write-count : goal.slice_bounds-write-count
slice_bounds-write-count c = line_end (goal.at.slice_bounds-write-count c).After-put_line

pub slice_bounds-write-start : goal.slice_bounds-write-start
slice_bounds-write-start c = line_end (goal.at.slice_bounds-write-start c).After-put_line

pub returns-in-Ok : goal.returns-in-Ok
returns-in-Ok c =
    let w = c.put_line.new.self in
    omega (
      arith,
      put_length c.put_line.ensures.put,
      part_written _ w.out.now w.at c.write.result c.unwrap_or.result c.write.ensures.answer c.unwrap_or.ensures (line_end (goal.at.returns-in-Ok c).After-put_line),
    )

pub overflow_add-result : goal.overflow_add-result
overflow_add-result c = let h = returns-in-Ok c in search rules

pub returns-in-Err : goal.returns-in-Err
returns-in-Err c =
    let e = c.put_line-in-Err.ensures.put in
    omega (arith, e.end, put_length e, line_short word c.from.result refl)
