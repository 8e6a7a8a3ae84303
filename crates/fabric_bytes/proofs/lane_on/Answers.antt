-- `fabric_bytes::lane_on` meets its contract. The test is the bit's definition.
-- Assumes nothing.
use mathlib.Core.Path.{refl}
use Rattle.common_laws.specs.Bits.{bit}
use Rattle.fabric_bytes.proofs.lane_on.Goals as goal

pub returns : goal.returns
unfolding bit
returns c = refl
