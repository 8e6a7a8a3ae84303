-- `fabric_check::unmapped_mask` meets its contract. The loop's invariant: the mask is that of the first m masters.
-- Assumes nothing.
use mathlib.Core.Path.{◌≡◌}
use Rattle.common_laws.proofs.TableLaws as masks
use Rattle.fabric_state.specs.Soundness.{unmapped_at}
use Rattle.description_layout.specs.Layout.{board_in}
use Rattle.fabric_layout.specs.Layout.{state_in}
use Rattle.fabric_check.proofs.unmapped_mask.Given as goal

abbrev pub invariant-loop-m : goal.invariant-loop-m
invariant-loop-m l =
    l.mask ≡ masks.mask (unmapped_at (board_in l.board) (state_in l.st)) l.m
