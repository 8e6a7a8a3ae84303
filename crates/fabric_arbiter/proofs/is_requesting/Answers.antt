-- `fabric_arbiter::is_requesting` meets its contract: a mask of 32 bits has no bit from 32 on.
-- Assumes nothing.
use Rattle.common_laws.proofs.BitLaws.{bit_above}
use Rattle.common_laws.specs.Bits.{bit}
use mathlib.Core.Path.{sym, refl}
use Rattle.fabric_arbiter.proofs.is_requesting.Goals as goal

pub returns-then-m-ge32 : goal.returns-then-m-ge32
returns-then-m-ge32 c = sym (bit_above 32 _ _ c.before.ranges.requests.fits c.if-m-ge32.true)

pub returns : goal.returns
unfolding bit
returns c = refl
