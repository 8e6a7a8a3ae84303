-- `common_text::scan` meets its contract. The loop's invariant: the value of the digits passed is below 10 to the power of their
-- count, and the number is what the digits left spell after it. Assumes nothing.
use mathlib.Core.Path.{sym, ◌∙◌}
use Prim.Native.Nat.{◌-◌}
use native.Mathlib.Omega.{arith}
use lib.ListN.{get_or}
use Rattle.common_text.proofs.Values.{digit_no, scan_stop, scan_step, scan_end, value_more}
use Rattle.common_text.proofs.scan.Goals as goal

pub returns-in_default : goal.returns-in_default
returns-in_default c =
    sym (c.loop-c.invariant.1 ∙ scan_stop _ _ c.loop-c.c-index (omega arith) (digit_no _ (λ low high. omega arith)))

pub returns-in_default-2 : goal.returns-in_default-2
returns-in_default-2 c =
    sym (c.loop-c.invariant.1 ∙ scan_stop _ _ c.loop-c.c-index (omega arith) (digit_no _ (λ low high. omega arith)))

pub loop-c-preserved : goal.loop-c-preserved
loop-c-preserved c =
    let l = c.loop-c in
    let s = c.args.s.now in
    rw c.from.ensures (
      value_more l.value (get_or s l.c-index 0 - 48) l.c-index l.invariant.0 (omega arith),
      l.invariant.1 ∙ scan_step l.value s l.c-index (omega arith) (omega arith) (omega arith),
    )

pub returns : goal.returns
returns c = sym (c.loop-c.invariant.1 ∙ scan_end _ _ c.loop-c.c-index (omega arith))
