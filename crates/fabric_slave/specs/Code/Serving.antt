-- Gives the code of fabric_slave its shape: rules 2 and 3 (rules 4.8, 4.9) at one slave from its own parts.
-- The code's form of `step_of` and `carried`.
-- Assumes nothing.
use Rattle.std.specs.Prelude.{◌≡◌, true, false, cond, not, ◌&&◌, ℕ, ◌≤◌, ◌<◌}
use Rattle.common_laws.specs.Lists.{member}
use Rattle.description_board.specs.declared.Master.{Master}
use Rattle.description_board.specs.Records.{Slave}
use Rattle.description_board.specs.Rules.{bursts}
use Rattle.fabric_transfer.specs.declared.Transfer.{Transfer}
use Rattle.fabric_transfer.specs.Accesses.{word_offset, accesses, access_number}
use Rattle.fabric_transfer.specs.Code.Pairs.{InWord}
use Rattle.fabric_transfer.specs.Code.Numbers.{Posted}
use Rattle.fabric_transfer.specs.Bytes.{Store, carried_access}
use Rattle.fabric_transfer.specs.Code.Reaching.{Reached}
use Rattle.fabric_state.specs.declared.Slot.{Slot}
use Rattle.fabric_state.specs.declared.Step.{Step}
use Rattle.fabric_state.specs.Records.{no_line}
use Rattle.fabric_state.specs.Control.{waits, served}
use Rattle.fabric_slave.specs.declared.Service.{Service}

-- access a is the one that the transfer carries out behind k others; it lies within one slave word, and that word's offset is
-- one of a slave
pub record Placed (ma : Master) (sl : Slave) (t : Transfer) (k a : ℕ) : Type 0 where
  pub posted : Posted ma sl t
  pub burst : member sl.burst bursts ≡ true
  pub left : k < accesses ma sl t
  pub few : accesses ma sl t ≤ 512
  pub number : a ≡ access_number ma sl t k
  pub word : InWord ma sl t a
  pub offset : word_offset ma sl t a < 65536

-- what the code asks once of a slave that serves
pub record Asked (x : Service) : Type 0 where
  pub serving : x.slot.serving ≡ true
  pub placed : Placed x.posting.pair.master x.posting.pair.slave x.posting.transfer x.slot.done x.access
  pub waiting : x.waiting ≡ waits x.posting.pair.slave x.posting.transfer x.slot
  pub total : x.total ≡ accesses x.posting.pair.master x.posting.pair.slave x.posting.transfer

-- rules 2 and 3 (rules 4.8, 4.9) after rule 1: of the owner, the slave and the owner's transfer
unfoldable pub step_from : Master → Slave → Transfer → Slot → Step
step_from ma sl t slot =
    cond slot.serving (served ma sl t slot) (record { slot = slot; line = no_line; last = false })

-- the bytes of the same slave, whose span starts at `start`
unfoldable pub carried_from : Master → Slave → Transfer → Slot → ℕ → Store → Store
carried_from ma sl t slot start d =
    cond (slot.serving && not (waits sl t slot))
    (carried_access ma sl t slot.owner start (access_number ma sl t slot.done) d) d

-- a slave that serves, and whose access in hand is one of the transfer's and of the lent bytes d
pub record Serves (ma : Master) (sl : Slave) (t : Transfer) (slot : Slot) (start : ℕ) (d : Store) : Type 0 where
  pub serving : slot.serving ≡ true
  pub placed : Placed ma sl t slot.done (access_number ma sl t slot.done)
  pub reached : Reached ma sl t slot.owner start (access_number ma sl t slot.done) d

-- its step r, and the bytes e that it leaves of d
pub record Served (ma : Master) (sl : Slave) (t : Transfer) (slot : Slot) (start : ℕ) (d e : Store) (r : Step) : Type 0 where
  pub step : r ≡ step_from ma sl t slot
  pub store : e ≡ carried_from ma sl t slot start d
