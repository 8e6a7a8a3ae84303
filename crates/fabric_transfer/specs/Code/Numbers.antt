-- Gives the code of fabric_accesses, fabric_check and fabric_slave its shape: the accesses that a transfer carries out stand side
-- by side, so that a first one and a count for each beat are all that the code keeps of them (rule 4.10).
-- Assumes nothing.
use Rattle.std.specs.Prelude.{◌≡◌, true, cond, ℕ, ◌+◌, ◌-◌, ◌/◌, ◌≤◌}
use Rattle.std.specs.Int.Count.{ones}
use Rattle.description_board.specs.declared.Master.{Master}
use Rattle.description_board.specs.Records.{Slave}
use Rattle.fabric_transfer.specs.declared.Transfer.{Transfer}
use Rattle.fabric_lanes.specs.Lanes.{lowest, post_lanes}
use Rattle.fabric_transfer.specs.Alignment.{ratio, leaves_out, access_bytes}
use Rattle.fabric_transfer.specs.Code.Pairs.{Widths}

-- a transfer of such a pair with some beats, and with lanes that a post may have (rules 3.4, 3.5)
pub record Posted (ma : Master) (sl : Slave) (t : Transfer) : Type 0 where
  pub wide : Widths ma sl
  pub some : 1 ≤ t.beats
  pub lanes : post_lanes ma.width t.lanes t.beats ≡ true

-- the number of the first access that is carried out: the one that has the lowest enabled lane
unfoldable pub first_access : Master → Slave → Transfer → ℕ
first_access ma sl t = cond (leaves_out sl t) (lowest t.lanes / access_bytes ma sl) 0

-- how many are carried out of each beat: those that the enabled lanes fill, or the one that has them all
unfoldable pub beat_accesses : Master → Slave → Transfer → ℕ
beat_accesses ma sl t =
    cond (leaves_out sl t) ((ones t.lanes + (access_bytes ma sl - 1)) / access_bytes ma sl) (ratio ma sl)
