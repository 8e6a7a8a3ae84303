-- `fabric_bytes::write_words` meets its contract. The loop's invariant: the first k words are moved, where they are enabled.
-- Assumes nothing.
use mathlib.Core.Path.{refl, ap, ◌∙◌, sym}
use mathlib.Core.Bool.{Bool}
use Prim.Native.Nat.{ℕ, ◌+◌}
use native.Mathlib.Nat.{zero-add}
use native.Mathlib.Omega.{arith}
use lib.ListN.{length, length-set, get_or}
use Rattle.common_laws.specs.Bits.{bit}
use Rattle.fabric_transfer.specs.Moving.{index_from, move}
use Rattle.fabric_transfer.proofs.MoveLaws.{move_none, move_put, move_skip}
use Rattle.fabric_bytes.proofs.write_words.Goals.{then-lane_on, else-lane_on}
use Rattle.fabric_bytes.proofs.write_words.Goals as goal

pub loop-k-init : goal.loop-k-init
loop-k-init c = let a = c.args in (refl, move_none (λ i. bit a.lanes (a.lane + i)) (λ k. get_or a.words.now k 0) (index_from 0) _)

pub loop-k-preserved : goal.loop-k-preserved
loop-k-preserved c =
    let l = c.loop-k in
    let a = c.args in
    let enabled : ℕ → Bool = λ i. bit a.lanes (a.lane + i) in
    let word : ℕ → ℕ = λ k. get_or a.words.now k 0 in
    let on = sym c.lane_on.ensures in
    elim c.if-lane_on.branch [
      | then-lane_on w ↦ (
        ap length w.memory-is ∙ length-set l.memory _ _ ∙ l.invariant.0,
        w.memory-is ∙ move_put enabled word (index_from 0) l.k _ _ _ l.invariant.1 (on ∙ w.if-lane_on.true) (sym (zero-add l.k)) refl,
      )
      | else-lane_on w ↦ (
        ap length w.memory-is ∙ l.invariant.0,
        w.memory-is ∙ move_skip enabled word (index_from 0) l.k _ l.invariant.1 (on ∙ w.if-lane_on.false),
      )
    ]

pub returns : goal.returns
returns c =
    let a = c.args in
    let enabled : ℕ → Bool = λ i. bit a.lanes (a.lane + i) in
    c.loop-k.invariant.1
    ∙ ap (λ (n : ℕ). move enabled (λ k. get_or a.words.now k 0) (index_from 0) 0 n a.memory.now)
    (let t = c.loop-k-test.false in let e = c.loop-k.auto.k-end in omega (arith, t, e))
