-- Gives the code of fabric_cycle its shape: what a clock that is not refused is handed, and what it leaves in lent arrays.
-- Assumes nothing.
use Rattle.std.specs.Prelude.{◌≡◌, true, cond, List, ℕ, ◌^◌}
use Rattle.common_laws.specs.Lists.{table, sum}
use Rattle.description_board.specs.declared.Board.{Board}
use Rattle.description_board.specs.Items.{board_refusal}
use Rattle.fabric_transfer.specs.Accesses.{no_transfer}
use Rattle.fabric_transfer.specs.Bytes.{Store}
use Rattle.fabric_state.specs.declared.State.{State}
use Rattle.fabric_state.specs.declared.Line.{Line}
use Rattle.fabric_state.specs.Records.{transfer_at}
use Rattle.fabric_state.specs.Soundness.{sound}
use Rattle.fabric_state.specs.Control.{slot_after, late_after, completed, state_after, lines_of, mask_of}
use Rattle.fabric_state.specs.Carrying.{carried_by, store_after}

-- the board is accepted (rule 8.5), and the state breaks no rule (rule 7.9)
pub record Passes (b : Board) (st : State) : Type 0 where
  pub board : board_refusal b ≡ 0
  pub state : sound b st ≡ true

-- the state once the latency clocks have passed and the slaves have acted: unmapped transfers still stand
unfoldable pub state_acted : Board → State → State
state_acted b st = record {
  transfers = table (λ m. cond (completed b st m) no_transfer (transfer_at st m)) 8;
  slots = table (slot_after b st) 16;
  late = table (late_after b st) 8;
  log = st.log;
}

-- that state, the lines left, the mask of who has completed its transfer and the bytes e left of d
pub record Acted (b : Board) (before after : State) (shown : List Line) (r : ℕ) (d e : Store) : Type 0 where
  pub state : after ≡ state_acted b before
  pub lines : shown ≡ lines_of b before
  pub mask : r ≡ sum (λ m. cond (completed b before m) (2 ^ m) 0) 8
  pub store : e ≡ carried_by b before b.slave_count d

-- the state left, the lines left, the mask answered and the bytes e left of d are the clock's (rule 4.13)
pub record Clocks (b : Board) (before after : State) (shown : List Line) (r : ℕ) (d e : Store) : Type 0 where
  pub state : after ≡ state_after b before
  pub lines : shown ≡ lines_of b before
  pub mask : r ≡ mask_of b before
  pub store : e ≡ store_after b before d
