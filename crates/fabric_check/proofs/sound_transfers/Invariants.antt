-- `fabric_check::sound_transfers` meets its contract. The loop's invariant: no transfer before m breaks a rule, and the slaves of
-- those stand at their indices.
-- Assumes nothing.
use mathlib.Core.Bool.{true}
use mathlib.Core.Path.{◌≡◌}
use lib.ListN.{get_or}
use Rattle.common_laws.specs.Lists.{every}
use Rattle.common_laws.proofs.FillLaws.{filled}
use Rattle.description_layout.specs.Layout.{board_in}
use Rattle.fabric_state.specs.Soundness.{sound_transfer}
use Rattle.fabric_layout.specs.Layout.{state_in}
use Rattle.fabric_check.specs.Code.Targets.{target_in}
use Rattle.fabric_check.proofs.sound_transfers.Given as goal

abbrev pub invariant-loop-m : goal.invariant-loop-m
invariant-loop-m l =
    let b = board_in l.board in
    (every (sound_transfer b (state_in l.st)) l.m ≡ true)
    × (l.targets ≡ filled (target_in b (state_in l.st).transfers) (λ k. get_or l.initial.targets k 0) 8 l.m)
