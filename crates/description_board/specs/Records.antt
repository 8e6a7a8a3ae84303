-- The records of a board, and its elements by number (rules 1.1, 1.8, 2.1).
-- Assumes nothing.
use Rattle.std.specs.Prelude.{Bool, false, ◌&&◌, List, [], ◌∷◌, ℕ, ◌+◌, ◌*◌, ltb, eqb, get_or, take, replicate}
use Rattle.description_board.specs.declared.Master.{Master}
use Rattle.description_board.specs.declared.SlaveFields.{SlaveFields}
use Rattle.description_board.specs.declared.Board.{Board}

-- rule 1.3: a slave of a board
abbrev pub Slave : Type 0
Slave = SlaveFields ℕ

-- rule 1.3: the numbers on a slave's line
abbrev pub SlaveNumbers : Type 0
SlaveNumbers = SlaveFields ℕ

-- a master of zeros
abbrev pub no_master : Master
no_master = record { width = 0; burst = 0 }

-- a slave of zeros
abbrev pub no_slave : Slave
no_slave = record { base = 0; span = 0; width = 0; burst = 0; read_wait = 0; write_wait = 0; native = 0; latency = 0 }

-- rule 1.6: the slave has native alignment
unfoldable pub is_native : Slave → Bool
is_native s = eqb s.native 1

-- rule 8.1: the board of a refusal; also that before the first line
unfoldable pub no_board : Board
no_board = record {
  master_count = 0;
  slave_count = 0;
  masters = replicate 8 no_master;
  slaves = replicate 16 no_slave;
  shares = replicate 128 0;
  default_line = false;
}

-- rule 1.1: master m. Past the end of a list `get_or` gives its last argument.
abbrev pub master_at : Board → ℕ → Master
master_at b m = get_or b.masters m no_master

-- rule 1.1: slave s
abbrev pub slave_at : Board → ℕ → Slave
slave_at b s = get_or b.slaves s no_slave

-- rule 1.8: the shares of master m at slave s, 0 where they are not connected. Each master has 16 numbers: from s = 16 on, which
-- is no slave of a legal board, the index is another master's.
abbrev pub shares_at : Board → ℕ → ℕ → ℕ
shares_at b m s = get_or b.shares (16 * m + s) 0

-- rule 1.8: s is a slave of the board, and master m has shares at it
unfoldable pub connected : Board → ℕ → ℕ → Bool
connected b m s = ltb s b.slave_count && ltb 0 (shares_at b m s)

-- rule 1.7: the spans of some slaves together
unfoldable pub total_span : List Slave → ℕ
total_span [] = 0
total_span (s ∷ ss) = s.span + total_span ss

-- rule 2.1: where the span of slave s starts in the memory. `take` of more slaves than there are is all of them.
unfoldable pub start_of : Board → ℕ → ℕ
start_of b s = total_span (take s b.slaves)

-- rule 2.1: the bytes of the memory
unfoldable pub memory_length : Board → ℕ
memory_length b = start_of b b.slave_count
