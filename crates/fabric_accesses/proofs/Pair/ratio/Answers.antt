-- `fabric_accesses::Pair::ratio` meets its contract.
-- Assumes nothing.
use mathlib.Core.Path.{◌≡◌, subst, sym, ◌∙◌, ap}
use mathlib.Core.Bool.{true}
use Prim.Native.Nat.{ℕ, ◌/◌}
use Rattle.common_laws.specs.Lists.{member}
use Rattle.description_board.specs.Rules.{widths}
use Rattle.fabric_transfer.proofs.AlignmentLaws.{access_legal, ratio_quotient}
use Rattle.fabric_accesses.proofs.Pair.ratio.Goals as goal

pub quotient-requires : goal.quotient-requires
quotient-requires c =
    subst (λ (n : ℕ). member n widths ≡ true) (sym c.access_bytes-bytes.ensures)
    (access_legal _ _ c.before.requires.master c.before.requires.slave)

pub returns : goal.returns
returns c =
    c.quotient.ensures ∙ ap (λ (n : ℕ). c.before.before.args.self.master.width / n) c.before.access_bytes-bytes.ensures
    ∙ ratio_quotient _ _ c.before.before.requires.master c.before.before.requires.slave
