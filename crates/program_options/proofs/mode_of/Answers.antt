use Rattle.program_options.proofs.ModeLaws.{first_option, first_operand}
use Rattle.program_options.proofs.mode_of.Goals as goal

pub returns-then-room-eq45 : goal.returns-then-room-eq45
returns-then-room-eq45 c = first_option _ _ _ _ _ c.if-room-eq45.true c.option_of.ensures c.mode_by.ensures

pub returns-else-room-eq45 : goal.returns-else-room-eq45
returns-else-room-eq45 c = first_operand _ _ _ _ _ c.if-room-eq45.false c.operands_from.ensures
