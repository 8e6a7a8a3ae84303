-- `fabric_bytes::store_words` meets its contract. The loop's invariant: the first k words are moved.
-- Assumes nothing.
use mathlib.Core.Path.{refl, ap, ◌∙◌}
use Prim.Native.Nat.{ℕ}
use native.Mathlib.Omega.{arith}
use lib.ListN.{length-set, get_or}
use Rattle.fabric_transfer.specs.Moving.{all, index_from, move}
use Rattle.fabric_transfer.proofs.MoveLaws.{move_none, move_put}
use Rattle.fabric_bytes.proofs.store_words.Goals as goal

pub loop-k-init : goal.loop-k-init
loop-k-init c = (refl, move_none all (λ k. get_or c.args.words.now k 0) (index_from c.args.at) _)

pub loop-k-preserved : goal.loop-k-preserved
loop-k-preserved c =
    let l = c.loop-k in
    let a = c.args in (
      length-set l.part _ _ ∙ l.invariant.0,
      move_put all (λ k. get_or a.words.now k 0) (index_from a.at) l.k _ _ _ l.invariant.1 refl refl refl,
    )

pub returns : goal.returns
returns c =
    let a = c.args in
    c.loop-k.invariant.1
    ∙ ap (λ (n : ℕ). move all (λ k. get_or a.words.now k 0) (index_from a.at) 0 n a.part.now)
    (let t = c.loop-k-test.false in let e = c.loop-k.auto.k-end in omega (arith, t, e))
