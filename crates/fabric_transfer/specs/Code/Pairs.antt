-- Gives the code of fabric_accesses, fabric_check and fabric_slave its shape: a pair's numbers are powers of two (rule 1.6).
-- Assumes nothing.
use Rattle.std.specs.Prelude.{◌≡◌, true, ℕ, ◌+◌, ◌%◌, ◌^◌, ◌≤◌}
use Rattle.common_laws.specs.Lists.{member}
use Rattle.description_board.specs.declared.Master.{Master}
use Rattle.description_board.specs.Records.{Slave}
use Rattle.description_board.specs.Rules.{widths}
use Rattle.fabric_transfer.specs.declared.Transfer.{Transfer}
use Rattle.fabric_transfer.specs.Alignment.{lane_bytes}
use Rattle.fabric_transfer.specs.Accesses.{access_offset}

-- both widths are legal
pub record Widths (ma : Master) (sl : Slave) : Type 0 where
  pub master : member ma.width widths ≡ true
  pub slave : member sl.width widths ≡ true

-- a span is one of the powers of two of rule 1.6
pub record Span (n : ℕ) : Type 0 where
  pub log : ℕ
  pub power : n ≡ 2 ^ log
  pub least : 3 ≤ log
  pub most : log ≤ 16

-- access a lies within one slave word of at most 8 lanes
pub record InWord (ma : Master) (sl : Slave) (t : Transfer) (a : ℕ) : Type 0 where
  pub width : sl.width ≤ 8
  pub inside : access_offset ma sl t a % sl.width + lane_bytes ma sl ≤ sl.width
