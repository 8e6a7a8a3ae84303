use Rattle.program_messages.proofs.LineLaws.{begun_at}
use Rattle.program_messages.proofs.line.Line.after.Goals as goal

pub returns : goal.returns
returns c = begun_at _ _ _ c.min-filled.ensures
