-- `wait::quote_of` meets its contract: a board that is not refused is legal.
-- Assumes nothing.
use borrow.Author.Rules.{rules}
use Rattle.wait.proofs.LookUpLaws.{board_accepted}
use Rattle.wait.proofs.quote_of.Goals as goal

pub pair_refusal-requires : goal.pair_refusal-requires
pair_refusal-requires c = board_accepted _ (search rules)
