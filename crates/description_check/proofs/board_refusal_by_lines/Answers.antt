-- `description_check::board_refusal_by_lines` meets its contract.
-- The loop's invariant: above and own are the reading of the lines of the first k entries.
-- Assumes nothing.
use Rattle.std.proofs.Common.{◌≡◌, Option, Some, None, refl, sym, ap, ◌∙◌, arith, rules}
use Rattle.std.proofs.lemmas.Result.{err_from_is_err_and}
use Rattle.common_laws.specs.Lists.{gather}
use Rattle.common_numbers.proofs.RefusalLaws.{refusal_not_zero}
use Rattle.description_board.specs.declared.Item.{Item}
use Rattle.description_board.specs.declared.Reading.{Reading}
use Rattle.description_board.specs.Rules.{step_all}
use Rattle.description_rules.proofs.ReadingLaws.{of_start}
use Rattle.description_rules.specs.Code.Readings.{reading_of}
use Rattle.description_check.proofs.EntryLaws.{run_next, check_stops, check_ends}
use Rattle.description_check.specs.Code.Entries.{lines_to}
use Rattle.description_check.proofs.board_refusal_by_lines.Goals.{in-Some+in_ok-above, in_default}
use Rattle.description_check.proofs.board_refusal_by_lines.Goals as goal

no_line : (x : Option Item) → ((y : Item) → x ≡ Some y → ⊥) → x ≡ None
no_line None h = refl
no_line (Some y) h = absurd (h y refl)

pub loop-k-init : goal.loop-k-init
unfolding step_all lines_to gather
loop-k-init c = of_start (search rules)

pub returns-in_err-above : goal.returns-in_err-above
unfolding step_all reading_of
returns-in_err-above c =
    let p = err_from_is_err_and c.from_residual.result c.from_residual.ensures.1 in
    rw (p.1, p.2)
    (check_stops _ _ _ (omega (arith, c.entry_count-k-end.ensures))
    (run_next _ _ _ _ c.loop-k.k c.loop-k.invariant c.in-Some.ensures c.in_err-above.ensures)
    (λ z. refusal_not_zero _ z))

pub loop-k-preserved : goal.loop-k-preserved
unfolding step_all
loop-k-preserved c =
    elim c.match-line_at.branch [
      | in-Some+in_ok-above w ↦ rw (w.own-is, w.above-is)
          (run_next _ _ _ _ c.loop-k.k c.loop-k.invariant w.in-Some.ensures w.in_ok-above.ensures)
      | in_default w ↦ rw (w.own-is, w.above-is)
          (run_next _ _ _ None c.loop-k.k c.loop-k.invariant (sym (no_line _ w.in_default.not-Some) ∙ c.line_at.ensures) refl)
    ]

pub returns-in_err-finish : goal.returns-in_err-finish
unfolding reading_of
returns-in_err-finish c =
    let r = c.from_residual-in_err-finish in
    let p = err_from_is_err_and r.result r.ensures.1 in
    rw (p.1, p.2)
    (ap (λ (x : Reading). x.number) c.in_err-finish.ensures
    ∙ check_ends _ _ _ (omega (arith, c.entry_count-k-end.ensures)) c.loop-k.invariant)

pub returns : goal.returns
unfolding reading_of
returns c =
    ap (λ (x : Reading). x.number) c.in_ok-finish.ensures
    ∙ check_ends _ _ _ (omega (arith, c.entry_count-k-end.ensures)) c.loop-k.invariant
