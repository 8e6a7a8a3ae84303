-- `fabric_check::transfers::request_masks` meets its contract.
-- The loop's invariant: the masks are those of the first m masters. Every bit has its own weight, so a sum fits a byte.
-- Assumes nothing.
use mathlib.Core.Path.{◌≡◌}
use Rattle.common_laws.specs.Lists.{table}
use Rattle.fabric_check.proofs.TargetLaws.{mask_below}
use Rattle.fabric_check.proofs.transfers.request_masks.Given as goal

abbrev pub invariant-loop-m : goal.invariant-loop-m
invariant-loop-m l =
    l.out ≡ table (mask_below l.targets l.m) 16
