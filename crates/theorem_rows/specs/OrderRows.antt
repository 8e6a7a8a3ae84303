-- The examples of rule 9.16: share lines in order, and out of it.
-- Assumes nothing.
use Rattle.std.specs.Prelude.{◌≡◌, List, [], ◌++◌, ℕ}
use Rattle.common_laws.specs.Bytes.{bytes_of}
use Rattle.description.specs.Reader.{read_text}
use Rattle.description.specs.Blame.{Charge, refused_at}
use Rattle.description.specs.Writer.{write_text}
use Rattle.wait.specs.Answers.{wait_refusal}
use Rattle.wait_table.specs.Tables.{printed, print_refusal}

-- two masters and three slaves, of which slave 1 is native and wider than master 0, and behind them these share lines, from line 6 on
unfoldable pub behind_slaves : List ℕ → List ℕ
behind_slaves lines =
    bytes_of "master,2,1\nmaster,4,8\nslave,4096,4096,2,8,1,0,0,0\nslave,0,16,4,1,0,0,1,0\nslave,16,16,1,1,0,0,0,0\n" ++ lines

-- a line charged with a refusal that names no master
abbrev pub charged : ℕ → ℕ → Charge
charged n k = record { number = n; line = k; master = 0 }

-- all pairs but the one that is too narrow
unfoldable pub ordered_text : List ℕ
ordered_text = behind_slaves (bytes_of "share,0,0,2\nshare,0,2,1\nshare,1,0,3\nshare,1,1,1\nshare,1,2,4\n")

pub record OrderRows : Type 0 where
  -- rule 9.16: by master, then slave, they are taken, and the writer puts the same text
  pub ordered : refused_at ordered_text ≡ charged 0 0
  pub same : write_text (read_text ordered_text).board ≡ ordered_text
  -- rule 9.16: a lower master, and a lower slave of the same master
  pub master : refused_at (behind_slaves (bytes_of "share,1,0,3\nshare,0,0,2\n")) ≡ charged 21 7
  pub slave : refused_at (behind_slaves (bytes_of "share,0,0,2\nshare,1,1,1\nshare,1,0,3\n")) ≡ charged 21 8
  -- rule 9.16: by slave, then master, they are out of order
  pub by_slave : refused_at (behind_slaves (bytes_of "share,0,0,2\nshare,1,0,3\nshare,0,2,1\n")) ≡ charged 21 8
  -- rule 9.16: the same pair twice, or a pair that has a line further above
  pub equal : refused_at (behind_slaves (bytes_of "share,0,0,2\nshare,0,0,2\n")) ≡ charged 7 7
  pub again : refused_at (behind_slaves (bytes_of "share,0,0,2\nshare,1,0,3\nshare,0,0,2\n")) ≡ charged 7 8
  -- rule 9.16: 3 and 19 come first, 20 later
  pub value : refused_at (behind_slaves (bytes_of "share,1,0,3\nshare,0,0,101\n")) ≡ charged 3 7
  pub narrow : refused_at (behind_slaves (bytes_of "share,1,0,3\nshare,0,1,2\n")) ≡ charged 19 7
  pub lacks : refused_at (bytes_of "master,4,8\nmaster,2,1\nslave,0,8,1,1,0,0,0,0\nslave,8,8,1,1,0,0,0,0\nshare,0,1,1\nshare,0,0,1\n")
      ≡ charged 21 6
  -- rule 9.16: a number with a 0 in front
  pub leading : refused_at (behind_slaves (bytes_of "share,0,0,2\nshare,01,0,3\n")) ≡ charged 1 7
  -- rule 9.16: the wait call and the table answer it before 10
  pub wait : wait_refusal (behind_slaves (bytes_of "share,1,0,3\nshare,0,0,2\n")) 0 0 [] ≡ 21
  pub table : print_refusal (behind_slaves (bytes_of "share,1,0,3\nshare,0,0,2\n")) [] ≡ 21
  pub printed_line : printed (behind_slaves (bytes_of "share,1,0,3\nshare,0,0,2\n")) ≡ bytes_of "refused,21\n"
