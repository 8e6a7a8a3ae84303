-- `fabric_cycle::cycle` meets its contract: what the slaves do, then the unmapped transfers.
-- Assumes nothing.
use mathlib.Core.Path.{◌∙◌}
use native.Mathlib.Omega.{arith}
use Rattle.fabric_layout.proofs.MarkLaws.{marks_then}
use Rattle.fabric_layout.proofs.StatePutLaws.{transfers_length, slots_length, lates_length}
use Rattle.fabric_cycle.proofs.UnmappedLaws.{answerable, mask_fits, cycle_is, cycle_none}
use Rattle.fabric_cycle.proofs.cycle.Goals as goal

pub act-completed-requires : goal.act-completed-requires
act-completed-requires c = (c.requires.0, c.requires.1, c.requires.3, c.requires.4)

pub returns-then-unmapped-eq0 : goal.returns-then-unmapped-eq0
returns-then-unmapped-eq0 c =
    let e = c.act-completed.ensures in (
      cycle_none _ _ (transfers_length _) (slots_length _) (lates_length _) c.requires.0 e.0 c.requires.2 c.if-unmapped-eq0.true,
      e.1,
    )

pub answer_unmapped-requires : goal.answer_unmapped-requires
answer_unmapped-requires c =
    answerable _ _ (transfers_length _) (slots_length _) (lates_length _) c.requires.0 c.act-completed.ensures.0 c.requires.2
    (c.act-completed.auto.buffer ∙ c.requires.4)

pub overflow_add-result : goal.overflow_add-result
overflow_add-result c =
    omega (
      arith,
      mask_fits _ _ (transfers_length _) (slots_length _) (lates_length _) c.requires.0 c.act-completed.ensures.0 c.requires.2,
    )

pub returns : goal.returns
returns c =
    let e = c.act-completed.ensures in
    let u = c.answer_unmapped.ensures in (
      cycle_is _ _ (transfers_length _) (slots_length _) (lates_length _) c.requires.0 e.0 c.requires.2 u.0,
      marks_then e.1 u.1,
    )
