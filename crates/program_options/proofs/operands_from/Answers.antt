use Rattle.std.proofs.Common.{rules}
use Rattle.program_options.proofs.ModeLaws.{operands_some, operands_others, operands_lack}
use Rattle.program_options.proofs.operands_from.Goals as goal

pub returns-in-Some : goal.returns-in-Some
returns-in-Some c = operands_some _ _ _ _ c.in-Some.ensures.0 (rw (← c.in-Some.ensures.1) c.if-least-operands.true)

pub returns-in_default : goal.returns-in_default
returns-in_default c = operands_others _ _ _ _ c.in-Some.ensures.0 (rw (← c.in-Some.ensures.1) c.if-least-operands.false)

pub returns-in_default-2 : goal.returns-in_default-2
returns-in_default-2 c = operands_lack _ _ _ _ (search rules)
