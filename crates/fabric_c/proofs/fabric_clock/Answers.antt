-- `fabric_c::fabric_clock` meets its contract: the mask goes to the number lent for it.
-- Assumes nothing.
use mathlib.Core.Path.{◌≡◌}
use native.Mathlib.Omega.{arith}
use lib.ListN.{length}
use lib.Seq.{get_or-set_same}
use borrow.Author.Rules.{rules}
use Rattle.fabric_c.proofs.AnswerLaws.{unwrap_is}
use Rattle.fabric_c.proofs.fabric_clock.Goals as goal

pub returns : goal.returns
returns c =
    let mask = c.args.mask.now in
    let one : length mask ≡ 1 = search rules in
    rw (
      get_or-set_same mask 0 c.unwrap_or.result 0 (omega (arith, one)),
      c.unwrap_or.ensures,
      unwrap_is 0 c.clock-answer.result,
      c.number_in.ensures,
    )
    c.clock-answer.ensures
