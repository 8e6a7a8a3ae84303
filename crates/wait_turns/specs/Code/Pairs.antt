-- Gives the code of wait_turns and wait_table its shape: what is asked of a legal board, and what is answered.
-- Assumes nothing.
use Rattle.std.specs.Prelude.{◌≡◌, ℕ, ◌<◌}
use Rattle.description_board.specs.declared.Master.{Master}
use Rattle.description_board.specs.Records.{Slave}
use Rattle.description_board.specs.declared.Board.{Board}
use Rattle.description_board.specs.Records.{slave_at}
use Rattle.description_board.specs.Legal.{LegalMaster, LegalSlave, Legal}
use Rattle.wait_turns.specs.declared.Quote.{Quote}
use Rattle.wait_turns.specs.declared.Turns.{Turns}
use Rattle.wait_turns.specs.Waits.{longest_access, single_access, quoted_wait, serve_of}
use Rattle.wait_turns.specs.Sums.{turns_at}

-- a master and a slave whose values are in their lists and ranges (rules 1.6, 1.7)
pub record LegalBoth (ma : Master) (sl : Slave) : Type 0 where
  pub master : LegalMaster ma
  pub slave : LegalSlave sl

-- sl is slave s of a legal board
pub record SlaveOf (b : Board) (sl : Slave) (s : ℕ) : Type 0 where
  pub legal : Legal b
  pub known : s < b.slave_count
  pub same : sl ≡ slave_at b s

-- master m and slave s are of a legal board
pub record PairOf (b : Board) (m s : ℕ) : Type 0 where
  pub legal : Legal b
  pub master : m < b.master_count
  pub slave : s < b.slave_count

-- wait and serve of a pair of a board (rules 5.5, 5.7)
unfoldable pub figures_of : Board → ℕ → ℕ → Quote
figures_of b m s = record { wait = quoted_wait b m s; serve = serve_of b m s }

-- the clocks of a single's access at slave s, its v, and the turns there (rules 5.1, 5.6, 5.7)
unfoldable pub slave_turns : Board → ℕ → Turns
slave_turns b s = record {
  single = single_access (slave_at b s);
  v = longest_access (slave_at b s);
  sum = turns_at b (single_access (slave_at b s)) (longest_access (slave_at b s)) s;
}
