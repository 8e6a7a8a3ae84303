-- `fabric_accesses::Posting::first_access` meets its contract: the access that has the lowest lane, or the first of all.
-- Assumes nothing.
use mathlib.Core.Path.{◌≡◌, subst, sym, ◌∙◌}
use mathlib.Core.Bool.{true}
use Prim.Native.Nat.{ℕ}
use Rattle.common_laws.specs.Lists.{member}
use Rattle.description_board.specs.Rules.{widths}
use Rattle.fabric_transfer.proofs.AlignmentLaws.{access_legal}
use Rattle.fabric_transfer.proofs.NumberLaws.{first_found, first_none}
use Rattle.fabric_accesses.proofs.Posting.first_access.Goals as goal

pub quotient-requires : goal.quotient-requires
quotient-requires c =
    let start = c.before.before.before.before in
    subst (λ (n : ℕ). member n widths ≡ true) (sym c.before.access_bytes-bytes.ensures)
    (access_legal _ _ start.requires.wide.master start.requires.wide.slave)

pub returns-then-leaves_out : goal.returns-then-leaves_out
returns-then-leaves_out c =
    let then = c.before.before.before in
    first_found _ _ _ then.before.before.requires (sym then.before.leaves_out.ensures ∙ then.if-leaves_out.true)
    c.before.before.access_bytes-bytes.ensures c.quotient.ensures

pub returns : goal.returns
returns c = first_none _ _ _ c.before.before.requires (sym c.before.leaves_out.ensures ∙ c.if-leaves_out.false)
