-- `fabric::post_refusal_by` meets its contract: the master whose transfer is looked at is one of the board.
-- Assumes nothing.
use mathlib.Core.Path.{sym}
use native.Mathlib.Omega.{arith}
use Rattle.description_board.proofs.Accepted.{accepted_legal}
use Rattle.fabric.proofs.post_refusal_by.Goals as goal

pub transfer_at-before-requires : goal.transfer_at-before-requires
transfer_at-before-requires c =
    let ok = sym c.in_ok-sound.ensures.number in
    omega (arith, c.master_count.ensures, c.if-master_count-m.false, (accepted_legal _ ok).few_masters)
