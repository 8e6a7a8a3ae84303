-- `fabric_c::fabric_run` meets its contract: clocks and mask go to the numbers lent for them.
-- Assumes nothing.
use mathlib.Core.Path.{◌≡◌}
use native.Mathlib.Omega.{arith}
use lib.ListN.{length}
use lib.Seq.{get_or-set_same}
use borrow.Author.Rules.{rules}
use Rattle.fabric_c.proofs.AnswerLaws.{unwrap_is}
use Rattle.fabric_c.proofs.fabric_run.Goals as goal

pub returns : goal.returns
returns c =
    let clocks = c.args.clocks.now in
    let mask = c.args.mask.now in
    let one : length clocks ≡ 1 = search rules in
    let other : length mask ≡ 1 = search rules in
    rw (
      get_or-set_same clocks 0 c.unwrap_or-ran.result.clocks 0 (omega (arith, one)),
      get_or-set_same mask 0 c.unwrap_or-ran.result.mask 0 (omega (arith, other)),
      c.unwrap_or-ran.ensures,
      unwrap_is (record { clocks = 0; mask = 0 }) c.run-answer.result,
      c.number_in.ensures,
    )
    c.run-answer.ensures
