use Rattle.std.proofs.Common.{rules}
use Rattle.program_messages.proofs.LineLaws.{headed_whole}
use Rattle.program_messages.proofs.line.Line.headed.Goals as goal

pub returns : goal.returns
returns c = headed_whole _ _ _ (search rules) c.about.ensures
