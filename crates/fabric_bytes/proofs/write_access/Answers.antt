-- `fabric_bytes::write_access` meets its contract. What is read in the lent part lies in the buffer where the part begins.
-- Assumes nothing.
use mathlib.Core.Path.{◌≡◌, ap, ◌∙◌}
use mathlib.Core.Bool.{Bool}
use Prim.Native.Nat.{ℕ, ◌+◌, ◌-◌, ◌*◌}
use native.Mathlib.Omega.{arith}
use lib.ListN.{length, get_or, take, drop, length-take, length-drop}
use Rattle.common_laws.specs.Bits.{bit}
use Rattle.fabric_transfer.specs.Moving.{index_from, move}
use Rattle.fabric_transfer.proofs.PartLaws.{words_at}
use Rattle.fabric_transfer.proofs.Ranges.{move_source}
use Rattle.fabric_bytes.proofs.write_access.Goals as goal

pub returns : goal.returns
returns c =
    let a = c.args in
    let n = length a.memory.now in
    let enabled : ℕ → Bool = λ i. bit a.lanes (a.lane + i) in
    let words = take (a.first + n - a.first) (drop a.first (take (512 * a.m + 512 - 512 * a.m) (drop (512 * a.m) a.buffer.now))) in
    let long : length words ≡ n = simp (length-take, length-drop) (omega (arith, c.requires)) in
    c.write_words.ensures
    ∙ ap (λ (k : ℕ). move enabled (λ k. get_or words k 0) (index_from 0) 0 k a.memory.now) long
    ∙ move_source enabled (λ k. get_or words k 0) (index_from 0) 0 (λ k. get_or a.buffer.now (512 * a.m + (a.first + k)) 0) n a.memory.now
    (λ i p q. words_at (512 * a.m) 512 a.first n a.buffer.now i (omega arith) (omega (arith, c.requires)))
