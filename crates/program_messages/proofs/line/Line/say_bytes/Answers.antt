use Rattle.std.proofs.Common.{rules}
use Rattle.program_messages.proofs.LineLaws.{told_in}
use Rattle.program_messages.proofs.line.Line.say_bytes.Goals as goal

pub returns : goal.returns
returns c = told_in _ _ _ _ _ _ c.self.view_is c.self.invariant c.say-self-inside.ensures (search rules)
