-- `fabric_layout::first_lines` meets its contract. The loop's invariant: the lines from n to s show nothing, the others are as
-- before.
-- Assumes nothing.
use mathlib.Core.Bool.{cond}
use mathlib.Core.Path.{◌≡◌}
use lib.Dec.{ltb}
use lib.ListN.{get_or}
use Rattle.common_laws.proofs.FillLaws.{filled}
use Rattle.fabric_state.specs.Records.{no_line}
use Rattle.fabric_layout.specs.Layout.{lines_in}
use Rattle.fabric_layout.proofs.first_lines.Given as goal

abbrev pub invariant-loop-s : goal.invariant-loop-s
invariant-loop-s l =
    (lines_in l.lines
    ≡ filled (λ i. cond (ltb i l.n) (get_or (lines_in l.initial.lines) i no_line) no_line) (λ i. get_or (lines_in l.initial.lines) i no_line) 16 l.s)
