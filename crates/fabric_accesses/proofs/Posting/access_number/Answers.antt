-- `fabric_accesses::Posting::access_number` meets its contract: the accesses that are carried out stand side by side.
-- Assumes nothing.
use native.Mathlib.Omega.{arith}
use Rattle.fabric_transfer.proofs.NumberLaws.{first_few, number_is}
use Rattle.fabric_accesses.proofs.Posting.access_number.Goals as goal

pub first_access-first-requires : goal.first_access-first-requires
first_access-first-requires c = c.requires.0

pub overflow_add-result : goal.overflow_add-result
overflow_add-result c =
    let start = c.before in
    omega (arith, c.first_access-first.ensures, first_few _ _ _ start.requires.0, start.requires.1, start.requires.2)

pub returns : goal.returns
returns c =
    let start = c.before in
    omega (arith, c.first_access-first.ensures, number_is _ _ _ start.requires.0 start.args.k start.requires.1)
