use Rattle.program_options.specs.Options.{mode_by}
use Rattle.program_options.proofs.mode_by.Goals as goal

pub returns-in-Help : goal.returns-in-Help
unfolding mode_by
returns-in-Help c = rw c.in-Help.is c.alone.ensures

pub returns-in-Version : goal.returns-in-Version
unfolding mode_by
returns-in-Version c = rw c.in-Version.is c.alone-in-Version.ensures

pub returns-in-End : goal.returns-in-End
unfolding mode_by
returns-in-End c = rw c.in-End.is c.operands_from.ensures

pub returns-in-Unknown : goal.returns-in-Unknown
unfolding mode_by
returns-in-Unknown c = rw c.in-Unknown.is
