-- `fabric_check::transfers::target_of` meets its contract.
-- The loop's invariant: the target is the first slave selected from s on.
-- Assumes nothing.
use mathlib.Core.Path.{◌≡◌}
use Prim.Native.Nat.{◌-◌}
use Rattle.common_laws.specs.Lists.{first_from}
use Rattle.description_layout.specs.Layout.{board_in}
use Rattle.fabric_transfer.specs.Decoding.{selects, target_of}
use Rattle.fabric_check.proofs.transfers.target_of.Given as goal

abbrev pub invariant-loop-s : goal.invariant-loop-s
invariant-loop-s l =
    let b = board_in l.board in
    target_of b l.m l.address ≡ first_from (selects b l.m l.address) l.s (b.slave_count - l.s)
