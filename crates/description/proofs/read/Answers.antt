-- `description::read` meets its contract. A text that is refused leaves the lent array as it was.
-- Assumes nothing.
use Rattle.description.proofs.BlameLaws.{read_refused, read_taken}
use Rattle.description.proofs.read.Goals as goal

pub returns-in-Ok : goal.returns-in-Ok
returns-in-Ok c = read_taken _ _ _ _ _ c.in-Ok.ensures c.copy.ensures

pub returns-in-Err : goal.returns-in-Err
returns-in-Err c = read_refused _ _ _ _ c.in-Err.ensures
