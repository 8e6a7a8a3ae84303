-- `description_rules::add_share` meets its contract. The share fits its field, as the line is not refused; past the 128 shares it
-- changes nothing.
-- Assumes nothing.
use Rattle.std.proofs.Common.{sym, ◌∙◌, arith}
use borrow.Author.Tests.{ltb-false}
use Rattle.std.proofs.lemmas.Result.{err_from_is_err_and}
use Rattle.description_board.proofs.RuleLaws.{share_taken}
use Rattle.description_board.specs.Rules.{item_refusal}
use Rattle.description_rules.proofs.ReadingLaws.{line_refused, share_added, share_past}
use Rattle.description_rules.specs.Code.Readings.{reading_of}
use Rattle.description_rules.proofs.add_share.Goals.{then-in_table, else-in_table}
use Rattle.description_rules.proofs.add_share.Goals as goal

pub returns-in_err-share_refusal : goal.returns-in_err-share_refusal
unfolding item_refusal reading_of
returns-in_err-share_refusal c =
    let p = err_from_is_err_and c.from_residual.result c.from_residual.ensures.1 in
    rw (p.1, p.2) (line_refused _ _ _ _ _ c.in_err-share_refusal.ensures.number)

pub overflow_cast-shares : goal.overflow_cast-shares
overflow_cast-shares c =
    let t = share_taken _ _ _ _ _ (sym c.in_ok-share_refusal.ensures.number) in omega arith

pub returns : goal.returns
returns c =
    let h = c.in_ok-share_refusal.ensures.number in
    let r = c.pair_rank.ensures in
    elim c.if-in_table.branch [
      | then-in_table w ↦ rw w.board-is (share_added _ _ _ _ _ _ h r w.put_share_at.ensures)
      | else-in_table w ↦ rw w.board-is (share_past _ _ _ _ _ h r (ltb-false _ _ (sym c.in_table.ensures ∙ w.if-in_table.false)))
    ]
