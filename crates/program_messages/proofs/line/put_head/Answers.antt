use Rattle.program_messages.proofs.LineLaws.{holds_head}
use Rattle.program_messages.proofs.line.put_head.Goals as goal

pub returns : goal.returns
returns c = holds_head _ _ _ _ _ _ _ _ c.say-b.auto.room c.say.auto.room c.say-a.ensures c.say-b.ensures c.say.ensures
