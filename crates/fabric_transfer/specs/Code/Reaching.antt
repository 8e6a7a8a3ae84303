-- Gives the code of fabric_bytes and fabric_slave its shape: what an access asks of the lent bytes.
-- Assumes nothing.
use Rattle.std.specs.Prelude.{◌≡◌, ℕ, ◌+◌, ◌≤◌, ◌<◌, length}
use Rattle.description_board.specs.declared.Master.{Master}
use Rattle.description_board.specs.Records.{Slave}
use Rattle.fabric_transfer.specs.declared.Transfer.{Transfer}
use Rattle.fabric_transfer.specs.Alignment.{lane_bytes, access_bytes}
use Rattle.fabric_transfer.specs.Accesses.{first_byte, access_offset}
use Rattle.fabric_transfer.specs.Code.Pairs.{Widths}
use Rattle.fabric_transfer.specs.Bytes.{Store, buffer_length}

-- access a of master number m lies in the lent memory, and in the master's part of the buffer
pub record Reached (ma : Master) (sl : Slave) (t : Transfer) (m start a : ℕ) (d : Store) : Type 0 where
  pub master : m < 8
  pub buffer : length d.buffer ≡ buffer_length
  pub wide : Widths ma sl
  pub part : first_byte ma sl a + access_bytes ma sl ≤ 512
  pub memory : start + access_offset ma sl t a + lane_bytes ma sl ≤ length d.memory
