-- `fabric_bytes::clear_access` meets its contract. The part that was lent comes back with zeros.
-- Assumes nothing.
use Prim.Native.Nat.{◌+◌, ◌-◌, ◌*◌}
use native.Mathlib.Omega.{arith}
use borrow.Author.Rules.{rules}
use Rattle.common_laws.proofs.TableLaws.{get_or_replicate_all}
use Rattle.fabric_transfer.proofs.PartLaws.{part_written}
use Rattle.fabric_bytes.proofs.clear_access.Goals as goal

pub returns : goal.returns
returns c =
    let a = c.args in
    let e = c.fill.ensures.after (λ y f. search rules) in
    let long = c.fill.ensures.len in
    part_written (λ k. 0) (512 * a.m) 512 a.first a.count (a.first + a.count - a.first) a.buffer.now _
    (omega (arith, c.requires)) c.requires.2 (omega arith) long
    (λ i h. rw e (get_or_replicate_all _ i 0))
