-- `fabric_bytes::clear_front` meets its contract: the front is what begins at index 0 of the part.
-- Assumes nothing.
use mathlib.Core.Path.{◌∙◌}
use Prim.Native.Nat.{◌*◌}
use Rattle.fabric_transfer.specs.Bytes.{cleared_words}
use Rattle.fabric_transfer.proofs.CarriedLaws.{front_cleared}
use Rattle.fabric_bytes.proofs.clear_front.Goals as goal

pub returns : goal.returns
unfolding cleared_words
returns c = c.clear_access.ensures ∙ front_cleared (512 * c.args.m) c.args.count c.args.buffer.now
