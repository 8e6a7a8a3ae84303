-- `fabric_check::held_at` meets its contract. Each way out is a law of the transfer; what is put is the slave that was found.
-- Assumes nothing.
use mathlib.Core.Path.{◌∙◌}
use borrow.Author.Tests.{not-true, not-false}
use Rattle.fabric_check.proofs.TargetLaws.{decodes}
use Rattle.fabric_check.proofs.RefusalLaws.{refusal_parts, latency_parts}
use Rattle.fabric_check.proofs.CheckLaws.{held_ours, held_stranger, held_none, legal_width}
use Rattle.fabric_check.proofs.held_at.Goals as goal

pub target_of-target-requires : goal.target_of-target-requires
target_of-target-requires c = (decodes _ c.requires.0, c.requires.1)

pub transfer_refusal_by-passed-requires : goal.transfer_refusal_by-passed-requires
transfer_refusal_by-passed-requires c =
    legal_width _ c.requires.0 _ c.master_count.ensures c.if-master_count-m.false c.master_at-master.ensures

pub returns : goal.returns
returns c =
    let count = c.slave_count-count.ensures in
    let slave = c.slave_at-slave.ensures in
    held_ours _ _ _ _ _ _ (not-false _ c.if-not-t.false) c.master_count.ensures c.if-master_count-m.false
    c.target_of-target.ensures
    (c.transfer_refusal_by-passed.ensures
    ∙ refusal_parts _ c.requires.0 _ _ _ c.target_of-target.ensures c.master_at-master.ensures slave count
    c.default_at-default.ensures)
    c.is_ok.ensures.value
    (c.latency_by.ensures ∙ latency_parts _ c.requires.0 _ _ _ c.target_of-target.ensures slave count)

pub returns-then-master_count-m : goal.returns-then-master_count-m
returns-then-master_count-m c = held_stranger _ _ _ _ _ (not-false _ c.if-not-t.false) c.master_count.ensures c.if-master_count-m.true _

pub returns-then-not-t : goal.returns-then-not-t
returns-then-not-t c = held_none _ _ _ _ _ (not-true _ c.if-not-t.true) c.slave_count-count.ensures
