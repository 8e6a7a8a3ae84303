-- `common_text::put_two` meets its contract: the two stores are those of `sets`. Assumes nothing.
use mathlib.Core.Path.{ap}
use Prim.Native.Nat.{ℕ, ◌+◌, ◌/◌, ◌%◌}
use native.Mathlib.Numerals.{add-one}
use native.Mathlib.Omega.{arith}
use lib.ListN.{set, length-set}
use Rattle.common_text.specs.Code.Scanning.{two_digits}
use Rattle.common_text.proofs.put_two.Goals as goal

pub bounds-out-at-2 : goal.bounds-out-at-2
bounds-out-at-2 c = simp length-set (omega arith)

pub returns : goal.returns
unfolding two_digits
returns c = let a = c.args in
    record {
      end = omega arith;
      bytes =
          ap (λ (k : ℕ). set (set a.out.now a.at (48 + a.n / 10)) k (48 + a.n % 10)) (add-one a.at);
    }
