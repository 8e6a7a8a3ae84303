-- A board as an array of numbers, one u32 for each field (rule 1.10).
-- Every list of numbers is read as a board: what is not there is 0, so that no call has to rule an array out.
-- Assumes nothing.
use Rattle.std.specs.Prelude.{Bool, cond, not, List, [], ◌∷◌, ◌++◌, ℕ, ◌+◌, ◌*◌, eqb, get_or}
use Rattle.common_laws.specs.Lists.{gather, table}
use Rattle.common_numbers.specs.Numbers.{slave_length}
use Rattle.description_board.specs.declared.Master.{Master}
use Rattle.description_board.specs.Records.{Slave}
use Rattle.description_board.specs.declared.Board.{Board}
use Rattle.description_board.specs.Records.{master_at, slave_at}

-- rules 1.10, 2.4: a mark: 0 is no, every other number is yes
abbrev pub marked : ℕ → Bool
marked n = not (eqb n 0)

-- rules 1.10, 2.4: the number that a call puts for a mark
unfoldable pub mark_of : Bool → ℕ
mark_of b = cond b 1 0

-- rule 1.10: two numbers from index p on are a master
unfoldable pub master_from : List ℕ → ℕ → Master
master_from l p = record { width = get_or l p 0; burst = get_or l (p + 1) 0 }

-- rule 1.10: where the shares begin, after two counts, 8 masters and 16 slaves; where the mark of the line `default` stands; how many
-- numbers a board has. A slave has as many numbers as its line (rule 1.3). The code has all of them as constants of common_numbers.
abbrev pub shares_from : ℕ
shares_from = 18 + 16 * slave_length

abbrev pub default_at : ℕ
default_at = shares_from + 128

abbrev pub board_length : ℕ
board_length = default_at + 1

-- rule 1.10: `slave_length` numbers from index p on are a slave
unfoldable pub slave_from : List ℕ → ℕ → Slave
slave_from l p = record {
  base = get_or l p 0;
  span = get_or l (p + 1) 0;
  width = get_or l (p + 2) 0;
  burst = get_or l (p + 3) 0;
  read_wait = get_or l (p + 4) 0;
  write_wait = get_or l (p + 5) 0;
  native = get_or l (p + 6) 0;
  latency = get_or l (p + 7) 0;
}

-- rule 1.10: the board: its counts, 8 masters, 16 slaves, the shares of master m at slave s at shares_from + 16 * m + s, the mark
-- of the line `default`
unfoldable pub board_in : List ℕ → Board
board_in l = record {
  master_count = get_or l 0 0;
  slave_count = get_or l 1 0;
  masters = table (λ m. master_from l (2 + 2 * m)) 8;
  slaves = table (λ s. slave_from l (18 + slave_length * s)) 16;
  shares = table (λ i. get_or l (shares_from + i) 0) 128;
  default_line = marked (get_or l default_at 0);
}

-- rule 1.10: the numbers of a master and of a slave
abbrev pub numbers_of_master : Master → List ℕ
numbers_of_master m = m.width ∷ m.burst ∷ []

abbrev pub numbers_of_slave : Slave → List ℕ
numbers_of_slave s =
    s.base ∷ s.span ∷ s.width ∷ s.burst ∷ s.read_wait ∷ s.write_wait ∷ s.native ∷ s.latency ∷ []

-- rules 1.10, 2.4: the numbers that a call puts for a board; the mark is 0 or 1
unfoldable pub numbers_of_board : Board → List ℕ
numbers_of_board b =
    b.master_count ∷ b.slave_count ∷ gather (λ m. numbers_of_master (master_at b m)) 8
    ++ gather (λ s. numbers_of_slave (slave_at b s)) 16
    ++ table (λ i. get_or b.shares i 0) 128
    ++ mark_of b.default_line ∷ []
