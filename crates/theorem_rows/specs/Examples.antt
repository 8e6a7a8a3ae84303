-- The examples of rules 9.7 and 9.8, and of some other rules, at the board of section 9.
-- Assumes nothing.
use Rattle.std.specs.Prelude.{◌≡◌, false, List, [], ◌∷◌, ◌++◌, ℕ, replicate}
use Rattle.common_laws.specs.Bytes.{bytes_of}
use Rattle.description.specs.Reader.{read_text}
use Rattle.description.specs.Writer.{write_text}
use Rattle.fabric_calls.specs.Calls.{post}
use Rattle.wait.specs.Answers.{wait_refusal, wait_output}
use Rattle.wait_table.specs.Tables.{printed}
use Rattle.wait.specs.Calls.{quote_of}
use Rattle.theorem_rows.specs.RowCalls.{started}
use Rattle.theorem_rows.specs.Rows.{board_text}

-- what a read by master 0 with full lanes answers after a reset
unfoldable pub read_answers : ℕ → ℕ → ℕ
read_answers a n =
    let b = (read_text board_text).board in
    let w = started b in
    (post b w.state w.store.buffer
    (record { master = 0; write = false; address = a; lanes = 15; beats = n; words = [] })).number

-- what a board of one master and one slave line answers
unfoldable pub slave_answers : List ℕ → ℕ
slave_answers line = (read_text (bytes_of "master,4,8\n" ++ (line ++ bytes_of "share,0,0,1\n"))).number

pub record Examples : Type 0 where
  -- rule 9.7: the last word of the slave
  pub last_word : read_answers 8188 1 ≡ 0
  -- rule 9.7: a beat too many there (7.17)
  pub past_end : read_answers 8188 2 ≡ 17
  -- rule 9.7: no multiple of the master's width (7.14)
  pub odd : read_answers 8190 1 ≡ 14
  -- rule 9.7: the first address behind the slave (7.16)
  pub nobody : read_answers 8192 1 ≡ 16
  -- rule 9.7: a beat more than the master's burst (7.13)
  pub too_many : read_answers 4096 9 ≡ 13
  -- rule 9.7: no beat (7.13)
  pub no_beat : read_answers 4096 0 ≡ 13
  -- rule 9.8: the smallest span
  pub eight : slave_answers (bytes_of "slave,0,8,4,1,0,0,0,0\n") ≡ 0
  -- rule 9.8: a span below it (7.3)
  pub four : slave_answers (bytes_of "slave,0,4,4,1,0,0,0,0\n") ≡ 3
  -- rule 9.8: a base that is no multiple of the span (7.4)
  pub shifted : slave_answers (bytes_of "slave,4100,4096,4,1,0,0,0,0\n") ≡ 4
  -- rule 8.2: a text without a line
  pub empty_text : printed [] ≡ bytes_of "refused,2\n"
  -- rule 8.2: a line without a byte
  pub empty_line : printed (bytes_of "\n") ≡ bytes_of "refused,1\n"
  -- rule 1.9: the writer's text of the board that was read is that text, byte for byte
  pub written : write_text (read_text board_text).board ≡ board_text
  -- rules 5.8 and 8.6: wait and serve of a pair, 8 bytes each; the 2 bytes behind them are kept
  pub pair : wait_output board_text 0 0 (replicate 18 9) ≡ (6 ∷ replicate 7 0) ++ ((32 ∷ replicate 7 0) ++ (9 ∷ 9 ∷ []))
  -- rule 7.10: one byte too few for them
  pub short : wait_refusal board_text 0 0 (replicate 15 9) ≡ 10
  -- rule 7.11: a master that the board does not have
  pub no_master : wait_refusal board_text 2 0 (replicate 16 9) ≡ 11
  -- rule 7.16: a slave that it does not have
  pub no_slave : wait_refusal board_text 0 1 (replicate 16 9) ≡ 16
  -- rules 5.5 and 5.7: the same figures, from the board itself
  pub quoted : quote_of (read_text board_text).board 0 0 ≡ record { number = 0; wait = 6; serve = 32 }
  -- rules 7.11 and 8.1: a refusal answers its number, and 0 for the figures
  pub quoted_master : quote_of (read_text board_text).board 2 0 ≡ record { number = 11; wait = 0; serve = 0 }
  -- rules 7.16 and 8.1: so does this one
  pub quoted_slave : quote_of (read_text board_text).board 0 1 ≡ record { number = 16; wait = 0; serve = 0 }
