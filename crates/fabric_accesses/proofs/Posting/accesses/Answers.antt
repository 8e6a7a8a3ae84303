-- `fabric_accesses::Posting::accesses` meets its contract.
-- Assumes nothing.
use mathlib.Core.Path.{ap₂, sym, ◌∙◌}
use Prim.Native.Nat.{ℕ, ◌*◌}
use Rattle.fabric_transfer.proofs.NumberLaws.{accesses_are}
use Rattle.fabric_accesses.proofs.Posting.accesses.Goals as goal

pub returns : goal.returns
returns c =
    ap₂ (λ (x y : ℕ). x * y) c.from.ensures (c.from-2.ensures ∙ c.beat_accesses-each.ensures)
    ∙ sym (accesses_are _ _ _ c.requires)
