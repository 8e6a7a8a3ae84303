-- `fabric_accesses::Posting::beat_accesses` meets its contract: at most 8 lanes, so that the sum fits.
-- Assumes nothing.
use mathlib.Core.Path.{◌≡◌, subst, sym, ◌∙◌}
use mathlib.Core.Bool.{true}
use Prim.Native.Nat.{ℕ}
use native.Mathlib.Omega.{arith}
use Rattle.common_laws.specs.Lists.{member}
use Rattle.description_board.specs.Rules.{widths}
use Rattle.description_board.proofs.RuleLaws.{width_bound}
use Rattle.fabric_transfer.proofs.AlignmentLaws.{access_legal}
use Rattle.fabric_transfer.proofs.NumberLaws.{lanes_few, beat_found, beat_whole}
use Rattle.fabric_accesses.proofs.Posting.beat_accesses.Goals.{After-access_bytes-bytes}
use Rattle.fabric_accesses.proofs.Posting.beat_accesses.Goals as goal

-- the bytes of an access are a legal width
legal : (c : After-access_bytes-bytes) → member c.access_bytes-bytes.result widths ≡ true
legal c =
    let start = c.before.before.before in
    subst (λ (n : ℕ). member n widths ≡ true) (sym c.access_bytes-bytes.ensures)
    (access_legal _ _ start.requires.wide.master start.requires.wide.slave)

pub overflow_sub-bytes : goal.overflow_sub-bytes
overflow_sub-bytes c = (width_bound c.before.access_bytes-bytes.result (legal c.before)).0

pub overflow_add-lanes : goal.overflow_add-lanes
overflow_add-lanes c =
    let start = c.before.before.before.before in
    omega (arith, (width_bound c.before.access_bytes-bytes.result (legal c.before)).1, lanes_few _ _ _ start.requires)

pub quotient-requires : goal.quotient-requires
quotient-requires c = legal c.before

pub returns-then-leaves_out : goal.returns-then-leaves_out
returns-then-leaves_out c =
    let then = c.before.before.before in
    beat_found _ _ _ then.before.before.requires (sym then.before.leaves_out.ensures ∙ then.if-leaves_out.true)
    c.before.before.access_bytes-bytes.ensures c.quotient.ensures

pub ratio-requires : goal.ratio-requires
ratio-requires c = c.before.before.requires.wide

pub returns : goal.returns
returns c =
    let left = c.before in
    c.ratio.ensures
    ∙ beat_whole _ _ _ left.before.before.requires (sym left.before.leaves_out.ensures ∙ left.if-leaves_out.false)
