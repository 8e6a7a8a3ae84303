-- `description_rules::refusals::memory_length` meets its contract. Of more slaves than the array has `take` gives all of them,
-- which are the first 16.
-- Assumes nothing.
use Rattle.std.proofs.Common.{◌≡◌, ℕ, ◌≤◌, ◌<◌, Bool, true, false, List, length, take, refl, ap, sym, ◌∙◌, arith}
use Prim.Native.Nat.{min}
use lib.Dec.{leb}
use lib.Seq.{take_all}
use borrow.Author.Tests.{leb-true, leb-false}
use Rattle.description_board.specs.Records.{Slave}
use Rattle.description_board.specs.Records.{total_span, start_of, memory_length}
use Rattle.description_layout.proofs.BoardLaws.{slaves_length}
use Rattle.description_layout.specs.Layout.{board_in}
use Rattle.description_rules.proofs.refusals.memory_length.Goals as goal

taken : (l : List Slave) (n : ℕ) → length l ≡ 16 → (t : Bool) → leb n 16 ≡ t → take (min n 16) l ≡ take n l
taken l n g true h = let b : n ≤ 16 = leb-true n 16 h in ap (λ (k : ℕ). take k l) (omega arith)
taken l n g false h =
    let b : 16 < n = leb-false n 16 h in
    take_all (min n 16) l (omega arith) ∙ sym (take_all n l (omega arith))

pub returns : goal.returns
unfolding memory_length start_of
returns c =
    let b = board_in c.args.board.now in
    let n = c.slave_count-count.result in
    let s : take (min n 16) b.slaves ≡ take b.slave_count b.slaves =
    taken b.slaves n (slaves_length c.args.board.now) (leb n 16) refl ∙ ap (λ (k : ℕ). take k b.slaves) c.slave_count-count.ensures in
    omega (arith, c.total_span.ensures, ap (λ (k : ℕ). total_span (take k b.slaves)) c.min.ensures, ap total_span s)
