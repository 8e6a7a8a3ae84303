-- `fabric_check::transfers::transfer_refusal` meets its contract.
-- Assumes nothing.
use mathlib.Core.Path.{◌∙◌}
use native.Mathlib.Omega.{arith}
use Rattle.description_board.proofs.Accepted.{accepted_legal}
use Rattle.fabric_check.proofs.TargetLaws.{decodes}
use Rattle.fabric_check.proofs.RefusalLaws.{refusal_parts}
use Rattle.fabric_check.proofs.transfers.transfer_refusal.Goals as goal

pub target_of-at-requires : goal.target_of-at-requires
target_of-at-requires c = (decodes _ c.requires.0, omega (arith, (accepted_legal _ c.requires.0).few_masters))

pub master_at-master-requires : goal.master_at-master-requires
master_at-master-requires c = omega (arith, (accepted_legal _ c.requires.0).few_masters)

pub transfer_refusal_by-requires : goal.transfer_refusal_by-requires
transfer_refusal_by-requires c = rw c.master_at-master.ensures ((accepted_legal _ c.requires.0).master _ c.requires.1).width

pub returns : goal.returns
returns c =
    c.transfer_refusal_by.ensures
    ∙ refusal_parts _ c.requires.0 _ _ _ c.target_of-at.ensures c.master_at-master.ensures
    c.slave_at-slave.ensures c.slave_count-count.ensures c.default_at.ensures
