-- The accesses of one transfer at one slave: which bytes, where, and which are carried out (rules 4.8, 4.10, 4.13, 4.14,
-- 4.16, 5.4).
-- The definitions are total: a quotient by 0 is 0, a remainder by 0 the number itself, a difference stops at 0, and behind the
-- last access that is carried out each number is 0. On a legal board no width is 0, the address of a transfer that is not refused
-- is not below the base, and no state that breaks no rule serves a transfer behind its last access.
-- Assumes nothing.
use Rattle.std.specs.Prelude.{Bool, true, cond, not, List, ℕ, ◌+◌, ◌*◌, ◌/◌, ◌%◌, ◌^◌, eqb, length, get_or}
use Rattle.common_laws.specs.Lists.{filtered}
use Rattle.description_board.specs.declared.Master.{Master}
use Rattle.description_board.specs.Records.{Slave}
use Rattle.fabric_transfer.specs.declared.Transfer.{Transfer}
use Rattle.fabric_lanes.specs.Lanes.{all_lanes}
use Rattle.fabric_transfer.specs.Alignment.{ratio, leaves_out, lane_bytes, access_bytes, byte_offset}

-- rules 4.2, 4.9: no transfer, as a reset and a finish leave it
abbrev pub no_transfer : Transfer
no_transfer = record { held = Bool.false; write = Bool.false; address = 0; lanes = 0; beats = 0 }

-- rule 4.10: the number, within the transfer, of the first byte of access a. The accesses of all beats are numbered from the
-- lowest address up, those that are left out too
unfoldable pub first_byte : Master → Slave → ℕ → ℕ
first_byte ma sl a = a * access_bytes ma sl

-- rule 4.10: where access a begins within the slave
unfoldable pub access_offset : Master → Slave → Transfer → ℕ → ℕ
access_offset ma sl t a = byte_offset ma sl t (first_byte ma sl a)

-- rule 4.13: where the slave word of access a begins within the slave
unfoldable pub word_offset : Master → Slave → Transfer → ℕ → ℕ
word_offset ma sl t a = access_offset ma sl t a / sl.width * sl.width

-- rules 2.3, 4.10, 4.14: the lanes of the master's word that access a writes, on the slave's lanes
unfoldable pub write_lanes : Master → Slave → Transfer → ℕ → ℕ
write_lanes ma sl t a =
    t.lanes / 2 ^ (first_byte ma sl a % ma.width) % 2 ^ lane_bytes ma sl * 2 ^ (access_offset ma sl t a % sl.width)

-- rule 4.14: the lanes that a clock's line shows of access a
unfoldable pub slave_lanes : Master → Slave → Transfer → ℕ → ℕ
slave_lanes ma sl t a = cond t.write (write_lanes ma sl t a) (all_lanes sl.width)

-- rule 4.10: access a is carried out: of a transfer that leaves some out, where it writes a lane
unfoldable pub accessed : Master → Slave → Transfer → ℕ → Bool
accessed ma sl t a = cond (leaves_out sl t) (not (eqb (write_lanes ma sl t a) 0)) true

-- rule 4.10: the numbers of the accesses that are carried out, in their order
unfoldable pub access_numbers : Master → Slave → Transfer → List ℕ
access_numbers ma sl t = filtered (accessed ma sl t) (t.beats * ratio ma sl)

-- rule 4.10: the accesses of a transfer: how many are carried out
unfoldable pub accesses : Master → Slave → Transfer → ℕ
accesses ma sl t = length (access_numbers ma sl t)

-- rule 4.10: the number of the one that is carried out behind k others
unfoldable pub access_number : Master → Slave → Transfer → ℕ → ℕ
access_number ma sl t k = get_or (access_numbers ma sl t) k 0

-- rule 4.8: the slave's wait for the transfer's direction
unfoldable pub wait_of : Slave → Transfer → ℕ
wait_of sl t = cond t.write sl.write_wait sl.read_wait

-- rule 4.16: the clocks between a transfer's last access and its finish: none for a write
unfoldable pub latency_of : Slave → Transfer → ℕ
latency_of sl t = cond t.write 0 sl.latency

-- rule 5.4: the own length of a transfer
unfoldable pub own_length : Master → Slave → Transfer → ℕ
own_length ma sl t = accesses ma sl t * (1 + wait_of sl t)
