-- `fabric_accesses::Pair::access_bytes` meets its contract.
-- Assumes nothing.
use mathlib.Core.Path.{sym, ◌∙◌}
use Rattle.fabric_transfer.proofs.AlignmentLaws.{native_bytes, sized_bytes}
use Rattle.fabric_accesses.proofs.Pair.access_bytes.Goals as goal

pub returns-then-is_native : goal.returns-then-is_native
returns-then-is_native c = sym (native_bytes _ _ (sym c.before.is_native.ensures ∙ c.if-is_native.true))

pub returns : goal.returns
returns c =
    c.lane_bytes.ensures ∙ sym (sized_bytes _ _ (sym c.before.before.is_native.ensures ∙ c.before.if-is_native.false))
