-- `description_check::clear_of` meets its contract. A span from the last end on meets none.
-- Assumes nothing.
use mathlib.Core.Path.{◌∙◌, sym}
use native.Mathlib.Omega.{arith}
use borrow.Author.Tests.{not-true}
use Rattle.description_check.proofs.AcceptLaws.{clear_behind, clear_apart}
use Rattle.description_check.proofs.clear_of.Goals as goal

pub returns-then-last-from : goal.returns-then-last-from
returns-then-last-from c = λ e. clear_behind _ _ _ _ _ c.requires.by_index (omega arith)

pub returns-else-last-from : goal.returns-else-last-from
returns-else-last-from c = λ e. clear_apart _ _ _ _ (sym c.overlaps.ensures ∙ not-true _ e)
