-- Memory and buffer: the bytes that a post, an access and an unmapped read move (rules 2.1 to 2.3, 3.2, 4.11, 4.17).
-- Assumes nothing.
use Rattle.std.specs.Prelude.{Bool, cond, ◌&&◌, List, ℕ, ◌+◌, ◌*◌, ◌%◌, length, get_or}
use Rattle.common_laws.specs.Bits.{bit}
use Rattle.description_board.specs.declared.Master.{Master}
use Rattle.description_board.specs.Records.{Slave}
use Rattle.fabric_transfer.specs.declared.Transfer.{Transfer}
use Rattle.fabric_transfer.specs.Alignment.{access_bytes, has_lane, byte_offset}
use Rattle.fabric_transfer.specs.Accesses.{first_byte}
use Rattle.fabric_transfer.specs.Moving.{all, bytes_from, index_from, move}

-- rules 2.1, 2.2: the lent memory and the lent buffer
pub record Store : Type 0 where
  pub memory : List ℕ
  pub buffer : List ℕ

-- rule 2.2: the bytes of the buffer
abbrev pub buffer_length : ℕ
buffer_length = 4096

-- rule 2.2: where the part of master m begins in the buffer
abbrev pub part_of : ℕ → ℕ
part_of m = 512 * m

-- rule 3.2: the buffer with the words of a post at the front of the part of master m
unfoldable pub posted_words : ℕ → List ℕ → List ℕ → List ℕ
posted_words m words buffer = move all (λ i. get_or words i 0) (index_from (part_of m)) 0 (length words) buffer

-- rule 4.17: the buffer with n bytes at the front of the part of master m cleared
unfoldable pub cleared_words : ℕ → ℕ → List ℕ → List ℕ
cleared_words m n buffer = move all (λ i. 0) (index_from (part_of m)) 0 n buffer

-- rules 2.1, 6.8: the index in the memory of byte i of the transfer t, for a slave whose span starts at `start`
unfoldable pub memory_index : Master → Slave → Transfer → ℕ → ℕ → ℕ
memory_index ma sl t start i = start + byte_offset ma sl t i

-- rules 2.3, 4.11: a write changes byte i where lane i modulo the master's width is enabled, and the slave has a lane for it
unfoldable pub stores : Master → Slave → Transfer → ℕ → Bool
stores ma sl t i = bit t.lanes (i % ma.width) && has_lane ma sl i

-- rules 3.5, 4.10: what a read brings for byte i, whichever lanes it names: the memory's byte, or 0 where the slave has no lane
-- for it
unfoldable pub byte_read : Master → Slave → Transfer → ℕ → List ℕ → ℕ → ℕ
byte_read ma sl t start memory i = cond (has_lane ma sl i) (get_or memory (memory_index ma sl t start i) 0) 0

-- rule 4.11: bytes first .. first + n − 1 of a write of master m
unfoldable pub written : Master → Slave → Transfer → ℕ → ℕ → ℕ → ℕ → Store → Store
written ma sl t m start first n d = record {
  memory =
      move (stores ma sl t) (bytes_from d.buffer (part_of m)) (memory_index ma sl t start) first n d.memory;
  buffer = d.buffer;
}

-- rule 3.2: bytes first .. first + n − 1 of a read of master m
unfoldable pub fetched : Master → Slave → Transfer → ℕ → ℕ → ℕ → ℕ → Store → Store
fetched ma sl t m start first n d = record {
  memory = d.memory;
  buffer = move all (byte_read ma sl t start d.memory) (index_from (part_of m)) first n d.buffer;
}

-- rule 4.8: bytes first .. first + n − 1 of the transfer t that master m holds, moved
unfoldable pub carried_bytes : Master → Slave → Transfer → ℕ → ℕ → ℕ → ℕ → Store → Store
carried_bytes ma sl t m start first n d =
    cond t.write (written ma sl t m start first n d) (fetched ma sl t m start first n d)

-- rule 4.8: access a, carried out
unfoldable pub carried_access : Master → Slave → Transfer → ℕ → ℕ → ℕ → Store → Store
carried_access ma sl t m start a d = carried_bytes ma sl t m start (first_byte ma sl a) (access_bytes ma sl) d
