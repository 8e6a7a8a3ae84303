use Rattle.program_options.proofs.ModeLaws.{option_alone, option_beside}
use Rattle.program_options.proofs.alone.Goals as goal

pub returns-then-count-eq2 : goal.returns-then-count-eq2
returns-then-count-eq2 c = option_alone _ _ c.if-count-eq2.true

pub returns-else-count-eq2 : goal.returns-else-count-eq2
returns-else-count-eq2 c = option_beside _ _ c.if-count-eq2.false
