-- `description::read_lines` meets its contract. The loop's invariant: the lines before `at` are read and counted, none refused.
-- The measure is what is left of the text.
-- Assumes nothing.
use Rattle.std.proofs.Common.{refl, arith}
use Rattle.common_numbers.proofs.RefusalLaws.{refusal_not_zero}
use Rattle.description_rules.proofs.ReadingLaws.{of_start}
use Rattle.description_rules.specs.Code.Readings.{reading_of}
use Rattle.description.proofs.BlameLaws.{counted_none, counted_next, counted_refused, counted_end, not_twenty}
use Rattle.description.proofs.BlameLaws.{line_comes, end_comes, none_comes}
use Rattle.description.proofs.read_lines.Goals as goal

pub loop-at-init : goal.loop-at-init
loop-at-init c = counted_none _ _ (of_start c.requires)

pub returns-in-Err : goal.returns-in-Err
unfolding reading_of
returns-in-Err c =
    let l = c.loop-at in
    let found = c.line_from-found.ensures in
    let step = c.in-Err.ensures in
    line_comes _ _ _ _ (counted_refused _ _ _ l.line l.at l.invariant _ _ found step (λ z. refusal_not_zero _ z))
    (not_twenty _ _ _ l.line l.at l.invariant _ _ found step)

pub loop-at-smaller : goal.loop-at-smaller
loop-at-smaller c = let f = c.line_from-found.ensures in omega (arith, f.onward, f.within)

pub loop-at-preserved : goal.loop-at-preserved
unfolding reading_of
loop-at-preserved c =
    let l = c.loop-at in
    counted_next _ _ _ l.line l.at l.invariant _ _ c.line_from-found.ensures c.in-Ok.ensures refl

pub returns-in-Ok-finish : goal.returns-in-Ok-finish
unfolding reading_of
returns-in-Ok-finish c =
    let l = c.loop-at in
    none_comes _ _ _ _
    (counted_end _ _ _ l.line l.at l.invariant 0 _ (omega arith) c.in-Ok-finish.ensures c.without_share-lowest.ensures refl)

pub returns-in-Err-finish : goal.returns-in-Err-finish
unfolding reading_of
returns-in-Err-finish c =
    let l = c.loop-at in
    end_comes _ _ _ _ _
    (counted_end _ _ _ l.line l.at l.invariant _ _ (omega arith) c.in-Err-finish.ensures c.without_share-lowest.ensures refl)
    c.named.ensures
