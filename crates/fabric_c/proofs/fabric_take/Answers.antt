-- `fabric_c::fabric_take` meets its contract: the entry goes to the numbers lent for it.
-- Assumes nothing.
use mathlib.Core.Path.{◌≡◌}
use lib.ListN.{length}
use borrow.Author.Rules.{rules}
use Rattle.fabric_state.specs.Records.{no_entry}
use Rattle.fabric_c.proofs.AnswerLaws.{unwrap_is}
use Rattle.fabric_c.proofs.EntryLaws.{entry_taken, entry_small}
use Rattle.fabric_c.proofs.fabric_take.Goals as goal

pub returns : goal.returns
returns c =
    let entry = c.args.entry.now in
    let three : length entry ≡ 3 = search rules in
    let x = c.unwrap_or-oldest.result in
    let n = c.number_in.result in (
      rw (
        entry_taken entry three n x.master x.address x.write c.mark_of.ensures,
        c.unwrap_or-oldest.ensures,
        unwrap_is no_entry c.take-answer.result,
        c.number_in.ensures,
      )
          c.take-answer.ensures,
      entry_small entry three n x.master x.address x.write c.mark_of.ensures,
    )
