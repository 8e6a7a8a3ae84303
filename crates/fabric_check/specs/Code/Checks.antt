-- Gives the code of fabric_check its shape: what the check of a state answers, by its parts (rule 7.9).
-- The parts: a transfer, all of them, the state, the board and the state.
-- Assumes nothing.
use Rattle.std.specs.Prelude.{◌≡◌, Bool, true, false, cond, List, ℕ, set, Result}
use Rattle.common_numbers.specs.declared.Refusal.{Refusal}
use Rattle.common_numbers.specs.Refusals.{refusal_in, answer_or}
use Rattle.common_laws.specs.Lists.{every}
use Rattle.description_board.specs.Records.{Slave}
use Rattle.description_board.specs.declared.Board.{Board}
use Rattle.description_board.specs.Items.{board_refusal}
use Rattle.fabric_transfer.specs.declared.Transfer.{Transfer}
use Rattle.fabric_transfer.specs.Accesses.{latency_of}
use Rattle.fabric_state.specs.declared.State.{State}
use Rattle.fabric_state.specs.Posting.{unmapped}
use Rattle.fabric_state.specs.Soundness as soundness
use Rattle.fabric_check.specs.Code.Targets.{held_target, targets_in}

-- the latency of t at the slave sl of number s, which is the count of slaves where t is unmapped (rules 4.16, 4.17)
unfoldable pub latency_by : Slave → Transfer → ℕ → ℕ → ℕ
latency_by sl t s count = cond (unmapped s count) 0 (latency_of sl t)

-- whether t breaks no rule with so many latency clocks to pass; where it breaks none, its slave is put at index m
pub record Held (b : Board) (m : ℕ) (t : Transfer) (late : ℕ) (r : Bool) (before after : List ℕ) : Type 0 where
  pub sound : r ≡ soundness.sound_held b m t late
  pub target : r ≡ true → after ≡ set before m (held_target b m t)

-- whether `rule` holds; where it does, ts are the slaves of the state's transfers
pub record Answered (b : Board) (st : State) (rule r : Bool) (ts : List ℕ) : Type 0 where
  pub sound : r ≡ rule
  pub targets : r ≡ true → ts ≡ targets_in b st.transfers

-- the board is accepted, no transfer of the state breaks a rule, and ts are their slaves
pub record Decoded (b : Board) (st : State) (ts : List ℕ) : Type 0 where
  pub board : board_refusal b ≡ 0
  pub transfers : every (soundness.sound_transfer b st) 8 ≡ true
  pub targets : ts ≡ targets_in b st.transfers

-- what is checked of a board and a state before a call acts: the board's refusal; of an accepted board, whether the state
-- breaks no rule; of a state that breaks none, which slave each held transfer is for
pub record Preconditions (b : Board) (st : State) (r : Result Bool Refusal) (ts : List ℕ) : Type 0 where
  pub number : refusal_in r ≡ board_refusal b
  pub sound : board_refusal b ≡ 0 → answer_or false r ≡ soundness.sound b st
  pub targets : board_refusal b ≡ 0 → soundness.sound b st ≡ true → ts ≡ targets_in b st.transfers
