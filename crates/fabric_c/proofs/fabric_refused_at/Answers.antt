-- `fabric_c::fabric_refused_at` meets its contract: the line goes to the number lent for it.
-- Assumes nothing.
use mathlib.Core.Path.{◌≡◌, ap, ◌∙◌}
use native.Mathlib.Omega.{arith}
use lib.ListN.{length}
use lib.Seq.{get_or-set_same}
use borrow.Author.Rules.{rules}
use Rattle.description.specs.Blame.{Charge}
use Rattle.fabric_c.proofs.fabric_refused_at.Goals as goal

pub returns-in-Ok : goal.returns-in-Ok
returns-in-Ok c =
    let line = c.args.line.now in
    let one : length line ≡ 1 = search rules in
    let told = c.in-Ok.ensures.charge in record {
      answer = ap (λ (r : Charge). r.number) told;
      line = get_or-set_same line 0 0 0 (omega (arith, one)) ∙ ap (λ (r : Charge). r.line) told;
    }

pub returns-in-Err : goal.returns-in-Err
returns-in-Err c =
    let line = c.args.line.now in
    let one : length line ≡ 1 = search rules in
    let told = c.in-Err.ensures.charge in record {
      answer = c.number.ensures ∙ ap (λ (r : Charge). r.number) told;
      line =
          get_or-set_same line 0 c.line_part.result 0 (omega (arith, one)) ∙ c.line_part.ensures
          ∙ ap (λ (r : Charge). r.line) told;
    }
