-- The one place where bus sizing and native alignment part (rule 4.10): how the bytes of a transfer fall to accesses, and where
-- each of them lies in the slave. Bytes of a transfer are numbered from 0, beat behind beat.
-- Assumes nothing.
use Rattle.std.specs.Prelude.{Bool, true, cond, not, ◌&&◌, ℕ, ◌+◌, ◌-◌, ◌*◌, ◌/◌, ◌%◌, min, ltb}
use Rattle.description_board.specs.declared.Master.{Master}
use Rattle.description_board.specs.Records.{Slave}
use Rattle.description_board.specs.Records.{is_native}
use Rattle.fabric_transfer.specs.declared.Transfer.{Transfer}

-- rules 4.10, 5.2: r, the accesses of a beat
unfoldable pub ratio : Master → Slave → ℕ
ratio ma sl = cond (is_native sl) 1 (cond (ltb sl.width ma.width) (ma.width / sl.width) 1)

-- rule 4.10: the transfer leaves out those accesses of its beats that have no enabled lane: a write does, with bus sizing
unfoldable pub leaves_out : Slave → Transfer → Bool
leaves_out sl t = t.write && not (is_native sl)

-- rule 4.10: the bytes of an access that have a lane in the slave
unfoldable pub lane_bytes : Master → Slave → ℕ
lane_bytes ma sl = min ma.width sl.width

-- rule 4.10: the bytes of the transfer that fall to one access: a beat of a native slave; with bus sizing a slave word of a wider
-- master's beat, or the whole beat of any other
unfoldable pub access_bytes : Master → Slave → ℕ
access_bytes ma sl = cond (is_native sl) ma.width (lane_bytes ma sl)

-- rule 4.10: byte i of the transfer has a lane in the slave; in a native slave those of a beat below the slave's width have one
unfoldable pub has_lane : Master → Slave → ℕ → Bool
has_lane ma sl i = cond (is_native sl) (ltb (i % ma.width) sl.width) true

-- rules 4.10, 6.8: where byte i of the transfer lies within the slave: in a native slave each word of the master, counted from
-- the base, is one of the slave's; with bus sizing the bytes lie as the addresses do
unfoldable pub byte_offset : Master → Slave → Transfer → ℕ → ℕ
byte_offset ma sl t i =
    cond (is_native sl)
    (((t.address - sl.base) / ma.width + i / ma.width) * sl.width + i % ma.width)
    (t.address - sl.base + i)
