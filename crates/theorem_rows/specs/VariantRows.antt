-- The examples of rules 9.14 and 9.15: a slave's longer wait, chosen once for all turns, and the tables of several files.
-- Assumes nothing.
use Rattle.std.specs.Prelude.{◌≡◌, List, ◌++◌, ℕ}
use Rattle.common_laws.specs.Bytes.{bytes_of}
use Rattle.description_board.specs.declared.Board.{Board}
use Rattle.description.specs.Reader.{read_text}
use Rattle.wait_turns.specs.Waits.{turns_of}
use Rattle.wait_turns.specs.Sums.{turn_at, turns_at}
use Rattle.wait_table.specs.Tables.{printed, file_line}

-- three masters at two slaves that differ in base and waits alone, the second master at a third slave too
unfoldable pub variant : List ℕ → List ℕ → List ℕ
variant first second =
    bytes_of "master,8,8\nmaster,4,1\nmaster,2,4\n"
    ++ bytes_of "slave,0,4096,2,8," ++ first ++ bytes_of ",0,0\n"
    ++ bytes_of "slave,4096,4096,2,8," ++ second ++ bytes_of ",0,0\n"
    ++ bytes_of "slave,8192,16,4,1,0,0,0,0\n"
    ++ bytes_of "share,0,0,2\nshare,0,1,2\nshare,1,0,3\nshare,1,1,3\nshare,1,2,1\nshare,2,0,1\nshare,2,1,1\n"

-- the read wait is the shorter one at the first slave, and the longer one at the second
unfoldable pub variant_text : List ℕ
variant_text = variant (bytes_of "3,7") (bytes_of "7,3")

-- the other way about
unfoldable pub exchanged_text : List ℕ
exchanged_text = variant (bytes_of "7,3") (bytes_of "3,7")

unfoldable pub board : Board
board = (read_text variant_text).board

unfoldable pub variant_table : List ℕ
variant_table =
    bytes_of "master,slave,wait,serve\n"
    ++ bytes_of "0,0,80,256\n0,1,80,256\n1,0,320,16\n1,1,320,16\n1,2,0,1\n2,0,336,32\n2,1,336,32\n"

pub record VariantRows : Type 0 where
  -- rule 9.14: v is 8 at both slaves, and so is an access of a single; the turns there, and the table by them
  pub turn_first : turn_at board 8 8 0 0 ≡ 288
  pub turn_second : turn_at board 8 8 0 1 ≡ 48
  pub turn_third : turn_at board 8 8 0 2 ≡ 32
  pub turns : turns_at board 8 8 0 ≡ 368
  pub turns_other : turns_at board 8 8 1 ≡ 368
  pub figures : printed variant_text ≡ variant_table
  -- rule 9.14: which of the two waits is the longer one does not matter
  pub exchanged : printed exchanged_text ≡ variant_table
  -- rule 9.14: a master that is not connected has no turn
  pub unconnected : turn_at board 1 1 2 0 ≡ 0
  pub alone : turns_at board 1 1 2 ≡ 1
  -- rule 9.14: the sum is for any two numbers of 32 bits; the own turn is not in that of a wait
  pub shorter : turns_at board 4 4 0 ≡ 184
  pub largest : turns_at board 4294967295 4294967295 0 ≡ 197568495570
  pub others : turns_of board 4294967295 4294967295 2 0 ≡ 180388626390
  -- rule 9.14: accesses of singles that are shorter than v
  pub apart : turns_at board 4 8 0 ≡ 336
  -- rule 9.15: the line in front of a file's table
  pub line : file_line (bytes_of "boards/crane.txt") ≡ bytes_of "file,boards/crane.txt\n"
