use Rattle.std.proofs.Common.{rules}
use Rattle.program_messages.proofs.LineLaws.{holds_put}
use Rattle.program_messages.proofs.line.say.Goals as goal

pub returns : goal.returns
returns c =
    holds_put _ _ _ _ _ _ _ c.min-from.ensures (search rules) c.copy_from_slice.ensures.after (search rules)
