-- `fabric_grant::choose` meets its contract: the last owner again, the first requester, nobody.
-- Assumes nothing.
use Rattle.fabric_grant.proofs.AskingLaws.{again_low, first_low, grant_again, grant_first, grant_none}
use Rattle.fabric_grant.proofs.choose.Goals as goal

pub beats_at-requires : goal.beats_at-requires
beats_at-requires c = again_low _ c.requires.1 _ _ c.winner_of-w.ensures c.in-Again.is

pub shares_at-requires : goal.shares_at-requires
shares_at-requires c = (first_low _ c.requires.1 _ _ c.winner_of-w.ensures _ c.in-First.is, c.requires.0)

pub beats_at-requires-in-First : goal.beats_at-requires-in-First
beats_at-requires-in-First c = first_low _ c.requires.1 _ _ c.winner_of-w.ensures _ c.in-First.is

pub returns-in-Again : goal.returns-in-Again
returns-in-Again c =
    grant_again _ _ _ _ _ c.master_count.ensures c.winner_of-w.ensures _
    c.in-Again.is c.beats_at.ensures c.grant_by.ensures

pub returns-in-First : goal.returns-in-First
returns-in-First c =
    grant_first _ _ _ _ _ c.master_count.ensures c.winner_of-w.ensures _
    c.in-First.is c.shares_at.ensures c.beats_at-in-First.ensures c.grant_by-in-First.ensures

pub returns-in-NoOne : goal.returns-in-NoOne
returns-in-NoOne c = grant_none _ _ _ _ _ c.master_count.ensures c.winner_of-w.ensures c.in-NoOne.is
