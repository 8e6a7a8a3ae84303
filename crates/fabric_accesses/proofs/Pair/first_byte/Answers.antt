-- `fabric_accesses::Pair::first_byte` meets its contract.
-- Assumes nothing.
use mathlib.Core.Path.{ap₂, ◌∙◌}
use Prim.Native.Nat.{ℕ, ◌*◌}
use Rattle.fabric_transfer.specs.Accesses.{first_byte}
use Rattle.fabric_accesses.proofs.Pair.first_byte.Goals as goal

pub returns : goal.returns
unfolding first_byte
returns c = ap₂ (λ (x y : ℕ). x * y) c.from.ensures (c.from-2.ensures ∙ c.access_bytes-bytes.ensures)
