-- `fabric_bytes::post_words` meets its contract. The part that was lent comes back with the words at its front.
-- Assumes nothing.
use mathlib.Core.Path.{refl, ◌∙◌}
use Prim.Native.Nat.{◌+◌, ◌*◌}
use lib.ListN.{length, get_or}
use native.Mathlib.Nat.{zero-add}
use native.Mathlib.Omega.{arith}
use Rattle.fabric_transfer.specs.Moving.{all, index_from}
use Rattle.fabric_transfer.specs.Bytes.{posted_words}
use Rattle.fabric_transfer.proofs.PartLaws.{into_part}
use Rattle.fabric_transfer.proofs.MoveLaws.{move_same}
use Rattle.fabric_bytes.proofs.post_words.Goals as goal

pub returns : goal.returns
unfolding posted_words
returns c =
    let a = c.args in
    let n = length a.words.now in
    into_part all n (512 * a.m) (512 * a.m + 512) _ (λ k. get_or a.words.now k 0) 0 c.store_words.ensures
    (omega (arith, c.requires))
    ∙ move_same all all (λ k. get_or a.words.now k 0) (λ k. get_or a.words.now k 0) (λ t. 512 * a.m + (0 + t)) (index_from (512 * a.m)) 0 0 n
    a.buffer.now (λ i h. simp zero-add (refl, refl, refl))
