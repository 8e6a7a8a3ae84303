-- `common_text::put_four` meets its contract: two digits behind two. Assumes nothing.
use native.Mathlib.Omega.{arith}
use Rattle.common_text.specs.Code.Scanning.{two_digits, four_digits}
use Rattle.common_text.proofs.Puts.{put_then, put_length}
use Rattle.common_text.proofs.put_four.Goals as goal

pub put_two-requires : goal.put_two-requires
unfolding two_digits
put_two-requires c = let e = c.before.before.before.put_two-next.ensures in
    record { n_bound = omega arith; at_in_bounds = omega (arith, e.end, put_length e) }

pub returns : goal.returns
unfolding four_digits
returns c = let last = c.before.before in
    put_then last.before.before.before.before.put_two-next.ensures last.put_two.ensures
