-- `fabric_layout::remove_oldest` meets its contract. The loop's invariant: each of the first i entries is the one that stood behind it,
-- and all else is as the loop found it.
-- Assumes nothing.
use mathlib.Core.Path.{◌≡◌}
use native.Mathlib.Omega.{arith}
use borrow.Author.Rules.{rules}
use Rattle.fabric_layout.proofs.LogPutLaws.{remove_begin, remove_next, remove_end}
use Rattle.fabric_layout.proofs.NumbersLaws.{moved_begin, moved_next, removed_is}
use Rattle.fabric_layout.proofs.remove_oldest.Goals as goal

pub loop-i-init : goal.loop-i-init
loop-i-init c = (remove_begin _, moved_begin _ (search rules))

pub loop-i-preserved : goal.loop-i-preserved
loop-i-preserved c =
    let i = c.loop-i.invariant in
    let e = c.move_entry.ensures in
    (remove_next _ _ (search rules) i.0 e.0, moved_next _ _ (search rules) i.1 e.1)

pub returns : goal.returns
returns c =
    let i = c.loop-i.invariant in
    let n = c.log_count.ensures in
    let e : c.loop-i.i ≡ 7 = omega arith in (
      remove_end _ (search rules) _ _ n (omega arith) i.0 c.put_entry.ensures.0,
      removed_is _ (search rules) _ n (rw e at i.1) c.put_entry.ensures.1,
    )
