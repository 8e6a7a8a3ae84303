-- `common_text::put_long`, which calls itself, meets its contract: at most eight digits, or the last four after those of
-- n / 10000. The measure is n. Assumes nothing.
use Prim.Native.Nat.{◌≤◌}
use native.Mathlib.Omega.{arith}
use Rattle.common_text.proofs.Decimal.{digits_last_four_length}
use Rattle.common_text.proofs.Puts.{put_length, put_last_four}
use Rattle.common_text.proofs.+put_long.Goals as goal

pub put_long-next-requires : goal.put_long-next-requires
put_long-next-requires t c =
    let n = c.args.n in
    let h : 10000 ≤ n = omega arith in
    (omega arith, omega (arith, digits_last_four_length n h (omega arith)))

pub put_four-requires-clause-at_in_bounds : goal.put_four-requires-clause-at_in_bounds
put_four-requires-clause-at_in_bounds t c =
    let n = c.args.n in
    let h : 10000 ≤ n = omega arith in
    let e = c.put_long-next.ensures in
    omega (arith, e.end, put_length e, digits_last_four_length n h (omega arith))

pub returns : goal.returns
returns t c =
    let n = c.args.n in
    put_last_four n (omega arith) (omega arith) c.put_long-next.ensures c.put_four.ensures
