-- The examples of rules 9.12 and 9.13: boards on which a master has no share line.
-- Assumes nothing.
use Rattle.std.specs.Prelude.{◌≡◌, true, false, List, [], ◌++◌, ℕ, set}
use Rattle.common_laws.specs.Bytes.{bytes_of}
use Rattle.description_board.specs.declared.Board.{Board}
use Rattle.description_board.specs.Items.{board_refusal}
use Rattle.description.specs.Reader.{read_text}
use Rattle.description.specs.Blame.{Charge, refused_at}
use Rattle.description.specs.Writer.{write_refusal}
use Rattle.fabric_calls.specs.Calls.{World, reset, post, clock}
use Rattle.wait.specs.Answers.{wait_refusal}
use Rattle.wait.specs.Calls.{quote_of}
use Rattle.wait_table.specs.Tables.{printed, print_refusal}
use Rattle.wait_table.specs.Named.{names_master}
use Rattle.theorem_rows.specs.RowCalls.{started}
use Rattle.theorem_rows.specs.Rows.{board_text, word_read}

-- the masters and the slave of the board in rules section 9, and behind them these share lines
unfoldable pub with_shares : List ℕ → List ℕ
with_shares lines = bytes_of "master,4,8\nmaster,2,1\nslave,4096,4096,2,8,1,0,0,0\n" ++ lines

-- the same with a third master
unfoldable pub three_masters : List ℕ → List ℕ
three_masters lines = bytes_of "master,4,8\nmaster,2,1\nmaster,1,1\nslave,4096,4096,2,8,1,0,0,0\n" ++ lines

-- 20, with no line charged, and the master named
abbrev pub lacks : ℕ → Charge
lacks m = record { number = 20; line = 0; master = m }

-- the board of section 9 with another count of masters, and other shares of master 1
unfoldable pub lent : ℕ → ℕ → Board
lent count n =
    let b = (read_text board_text).board in
    record {
      master_count = count;
      slave_count = b.slave_count;
      masters = b.masters;
      slaves = b.slaves;
      shares = set b.shares 16 n;
      default_line = false;
    }

-- state, memory and buffer after a reset of the board of section 9
unfoldable pub world : World
world = started (read_text board_text).board

pub record ConnectionRows : Type 0 where
  -- rule 9.12: no share line at all, and what the table program prints for it
  pub nobody : refused_at (with_shares []) ≡ lacks 0
  pub printed_nobody : printed (with_shares []) ≡ bytes_of "refused,20\n"
  -- rule 9.12: none of the last master, none of the first, none of the last of three
  pub last : refused_at (with_shares (bytes_of "share,0,0,2\n")) ≡ lacks 1
  pub first : refused_at (with_shares (bytes_of "share,1,0,3\n")) ≡ lacks 0
  pub third : refused_at (three_masters (bytes_of "share,0,0,2\nshare,1,0,3\n")) ≡ lacks 2
  -- rule 9.12: of two the lower is named
  pub lower : refused_at (three_masters (bytes_of "share,0,0,2\n")) ≡ lacks 1
  -- rule 9.12: with their share lines all are taken, and the table names each, and no other
  pub taken : refused_at (with_shares (bytes_of "share,0,0,2\nshare,1,0,3\n")) ≡ record { number = 0; line = 0; master = 0 }
  pub names_first : names_master 0 (printed board_text) ≡ true
  pub names_last : names_master 1 (printed board_text) ≡ true
  pub names_third : names_master 2 (printed board_text) ≡ false
  -- rule 9.12: what is missing is judged behind all lines: 7 at the fourth, 2 for a text of masters alone
  pub line : refused_at (with_shares (bytes_of "share,2,0,2\n")) ≡ record { number = 7; line = 4; master = 0 }
  pub no_slave : refused_at (bytes_of "master,4,8\nmaster,2,1\n") ≡ record { number = 2; line = 0; master = 0 }
  -- rule 9.12: the wait call and the table answer it before 10
  pub wait : wait_refusal (with_shares (bytes_of "share,0,0,2\n")) 0 0 [] ≡ 20
  pub table : print_refusal (with_shares (bytes_of "share,0,0,2\n")) [] ≡ 20
  -- rule 9.13: a board that no reader made, with no shares of master 1
  pub lent_reset : (reset (lent 2 0)).number ≡ 20
  pub lent_post : (post (lent 2 0) world.state world.store.buffer (word_read 0 0b1111)).number ≡ 20
  pub lent_clock : (clock (lent 2 0) world.state world.store).number ≡ 20
  pub lent_quote : quote_of (lent 2 0) 0 0 ≡ record { number = 20; wait = 0; serve = 0 }
  pub lent_write : write_refusal (lent 2 0) [] ≡ 20
  -- rule 9.13: 20 comes before 8, and behind the 7 of shares that no master of the board has
  pub lent_short : (clock (lent 2 0) world.state (record { memory = []; buffer = [] })).number ≡ 20
  pub lent_outside : board_refusal (lent 1 3) ≡ 7
  -- rule 9.13: one share is enough
  pub lent_taken : board_refusal (lent 2 1) ≡ 0
