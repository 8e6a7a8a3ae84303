-- Gives the code of fabric_begin its shape: what a clock begins with (rules 4.3, 4.17, 8.4).
-- Assumes nothing.
use Rattle.std.specs.Prelude.{◌≡◌, List, ℕ, Result}
use Rattle.common_numbers.specs.declared.Refusal.{Refusal}
use Rattle.common_numbers.specs.Refusals.{refusal_in, answer_or}
use Rattle.common_laws.specs.Lists.{table}
use Rattle.description_board.specs.declared.Board.{Board}
use Rattle.fabric_transfer.specs.Bytes.{Store}
use Rattle.fabric_state.specs.declared.State.{State}
use Rattle.fabric_check.specs.Code.Targets.{targets_in, request_mask, unmapped_mask}
use Rattle.fabric_calls.specs.Calls.{clock_refusal}

-- what a clock is refused for; if nothing is, who holds a transfer for each slave, by masks, and who holds an unmapped one
pub record Beginning (b : Board) (st : State) (d : Store) (masks : List ℕ) (r : Result ℕ Refusal) : Type 0 where
  pub number : refusal_in r ≡ clock_refusal b st d
  pub holders : refusal_in r ≡ 0 → masks ≡ table (request_mask (targets_in b st.transfers)) 16
  pub unmapped : refusal_in r ≡ 0 → answer_or 0 r ≡ unmapped_mask b st
