-- `common_text::put_to_four` meets its contract: at most two digits, or the last two behind the others. Assumes nothing.
use native.Mathlib.Omega.{arith}
use Rattle.common_text.proofs.Decimal.{digits_last_two_length}
use Rattle.common_text.proofs.Puts.{put_length, put_last_two}
use Rattle.common_text.proofs.put_to_four.Goals as goal

pub put_to_two-next-requires : goal.put_to_two-next-requires
put_to_two-next-requires c = let n = c.before.before.before.args.n in
    record { n_bound = omega arith; n_in_bounds = omega (arith, digits_last_two_length n (omega arith) (omega arith)) }

pub put_two-requires : goal.put_two-requires
put_two-requires c = let first = c.before.before.before in
    let n = first.before.before.before.before.args.n in
    let e = first.put_to_two-next.ensures in
    record { n_bound = omega arith; at_in_bounds = omega (arith, e.end, put_length e, digits_last_two_length n (omega arith) (omega arith)) }

pub returns : goal.returns
returns c = let last = c.before.before in
    let first = last.before.before.before.before in
    let n = first.before.before.before.before.args.n in
    put_last_two n (omega arith) (omega arith) first.put_to_two-next.ensures last.put_two.ensures
