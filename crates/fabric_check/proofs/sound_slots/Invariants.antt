-- `fabric_check::sound_slots` meets its contract. The loop's invariant: no slot before s breaks a rule.
-- Assumes nothing.
use mathlib.Core.Bool.{true}
use mathlib.Core.Path.{◌≡◌}
use Rattle.common_laws.specs.Lists.{every}
use Rattle.description_layout.specs.Layout.{board_in}
use Rattle.fabric_state.specs.Soundness.{sound_slot}
use Rattle.fabric_layout.specs.Layout.{state_in}
use Rattle.fabric_check.proofs.sound_slots.Given as goal

abbrev pub invariant-loop-s : goal.invariant-loop-s
invariant-loop-s l =
    every (sound_slot (board_in l.board) (state_in l.st)) l.s ≡ true
