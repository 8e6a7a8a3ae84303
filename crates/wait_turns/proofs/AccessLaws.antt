-- The clocks of a single's access (rule 5.6): v, or with latency those of a write; never more than v.
-- Assumes nothing.
use mathlib.Core.Path.{◌≡◌}
use mathlib.Core.Bool.{Bool, true, false, cond}
use Prim.Native.Nat.{◌+◌, ◌≤◌}
use native.Mathlib.Omega.{arith}
use lib.Dec.{eqb}
use borrow.Author.Tests.{eq-eqb, ne_eqb}
use Rattle.description_board.specs.Records.{Slave}
use Rattle.wait_turns.specs.Waits.{longest_access, single_access}

module _ (sl : Slave) where
  pub single_access_plain : sl.latency ≡ 0 → single_access sl ≡ longest_access sl
  unfolding single_access
  single_access_plain e = rw (eq-eqb sl.latency 0 e)

  pub single_access_late : (sl.latency ≡ 0 → ⊥) → single_access sl ≡ 1 + sl.write_wait
  unfolding single_access longest_access
  single_access_late d = rw (ne_eqb sl.latency 0 d) (omega arith)

  -- a turn at a slave with latency is no longer than one without
  pub single_within : single_access sl ≤ longest_access sl
  unfolding single_access longest_access
  single_within = go (eqb sl.latency 0)
    where
      go : (t : Bool) → cond t (longest_access sl) (1 + sl.write_wait) ≤ longest_access sl
      go true = omega arith
      go false = omega arith
