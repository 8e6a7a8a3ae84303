-- `fabric_accesses::Posting::word_offset` meets its contract.
-- Assumes nothing.
use mathlib.Core.Path.{ap, ◌∙◌}
use Prim.Native.Nat.{ℕ, ◌-◌, ◌*◌, ◌/◌}
use native.Mathlib.Nat.{mod-le}
use native.Mathlib.Omega.{arith}
use Rattle.common_laws.proofs.Arithmetic.{less_remainder}
use Rattle.fabric_transfer.specs.Accesses.{word_offset}
use Rattle.fabric_accesses.proofs.Posting.word_offset.Goals as goal

pub access_offset-at-requires : goal.access_offset-at-requires
access_offset-at-requires c = c.requires

pub over_width-over-requires : goal.over_width-over-requires
over_width-over-requires c = c.before.requires.slave

pub overflow_sub-result : goal.overflow_sub-result
overflow_sub-result c =
    let width = c.before.before.args.self.pair.slave.width in
    omega (arith, c.over_width-over.ensures, mod-le c.before.access_offset-at.result width)

pub returns : goal.returns
unfolding word_offset
returns c =
    let at = c.before.access_offset-at.result in
    let w = c.before.before.args.self.pair.slave.width in
    ap (λ (x : ℕ). at - x) c.over_width-over.ensures ∙ less_remainder at w
    ∙ ap (λ (x : ℕ). x / w * w) c.before.access_offset-at.ensures
