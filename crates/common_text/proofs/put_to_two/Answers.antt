-- `common_text::put_to_two` meets its contract: one digit, or two. Assumes nothing.
use mathlib.Core.Path.{refl, ap}
use native.Mathlib.Omega.{arith}
use lib.ListN.{length}
use Rattle.common_text.specs.Code.Scanning.{two_digits}
use Rattle.common_text.proofs.Decimal.{digits_small, digits_small_length, digits_two}
use Rattle.common_text.proofs.put_to_two.Goals as goal

pub bounds-out-at : goal.bounds-out-at
bounds-out-at c = omega (arith, digits_small_length c.before.before.args.n c.if-n-lt10.true)

pub returns-then-n-lt10 : goal.returns-then-n-lt10
returns-then-n-lt10 c = rw (digits_small c.before.before.args.n c.if-n-lt10.true) (record { end = omega arith; bytes = refl })

pub put_two-requires : goal.put_two-requires
unfolding two_digits
put_two-requires c = let n = c.before.before.before.args.n in
    record { n_bound = omega arith; at_in_bounds = omega (arith, ap length (digits_two n (omega arith) (omega arith))) }

pub returns : goal.returns
returns c = let two = c.before.before in
    let n = two.before.before.before.before.args.n in
    rw (digits_two n (omega arith) (omega arith)) two.put_two.ensures
