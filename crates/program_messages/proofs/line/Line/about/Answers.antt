use Rattle.std.proofs.Common.{rules}
use Rattle.program_messages.proofs.LineLaws.{headed_in}
use Rattle.program_messages.proofs.line.Line.about.Goals as goal

pub returns : goal.returns
returns c = headed_in _ _ _ _ _ _ _ c.min-most.ensures c.put_head-filled.ensures (search rules) (search rules)
