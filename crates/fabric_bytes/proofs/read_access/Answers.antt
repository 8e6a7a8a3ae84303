-- `fabric_bytes::read_access` meets its contract. The part that was lent comes back with the bytes of the access.
-- Assumes nothing.
use Prim.Native.Nat.{◌+◌, ◌*◌}
use native.Mathlib.Omega.{arith}
use lib.ListN.{length, get_or}
use Rattle.fabric_transfer.specs.Moving.{all}
use Rattle.fabric_transfer.proofs.PartLaws.{into_part}
use Rattle.fabric_bytes.proofs.read_access.Goals as goal

pub returns : goal.returns
returns c =
    let a = c.args in
    into_part all (length a.words.now) (512 * a.m) (512 * a.m + 512) a.buffer.now (λ k. get_or a.words.now k 0) a.first
    c.store_words.ensures (omega (arith, c.requires))
