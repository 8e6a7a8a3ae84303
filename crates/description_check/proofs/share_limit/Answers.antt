-- `description_check::share_limit` meets its contract. By whether there is such a slave.
-- Assumes nothing.
use borrow.Author.Tests.{lt-ltb, le-ltb}
use Rattle.description_check.specs.Code.Accept.{share_limit}
use Rattle.description_check.proofs.share_limit.Goals as goal

pub returns-then-s-n : goal.returns-then-s-n
unfolding share_limit
returns-then-s-n c = rw (lt-ltb _ _ c.if-s-n.true)

pub returns-else-s-n : goal.returns-else-s-n
unfolding share_limit
returns-else-s-n c = rw (le-ltb _ _ c.if-s-n.false)
