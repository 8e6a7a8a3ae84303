-- `wait::put_figures` meets its contract: two numbers, one after the other.
-- Assumes nothing.
use borrow.Author.Rules.{rules}
use Rattle.common_text.proofs.Puts.{wrote_then}
use Rattle.wait.proofs.LookUpLaws.{figures_put}
use Rattle.wait.proofs.put_figures.Goals as goal

pub returns : goal.returns
returns c =
    let p = figures_put _ _ c.to_le_bytes-wait.ensures c.to_le_bytes-serve.ensures c.put_bytes.ensures.put
    c.put_bytes-2.ensures.put in
    let s = (wrote_then c.put_bytes.ensures c.put_bytes-2.ensures).same in
    search (rules, p, s)
