-- A second reading of rule 4.10: which accesses of a transfer's beats are carried out, and in which order. `carried_out` proves
-- it of every master, slave and transfer.
-- Assumes nothing.
use Rattle.std.specs.Prelude.{◌≡◌, true, false, not, ◌&&◌, ℕ, ◌+◌, ◌*◌, ◌≤◌, ◌<◌, eqb, ltb}
use Rattle.common_laws.specs.Lists.{member, table}
use Rattle.description_board.specs.declared.Master.{Master}
use Rattle.description_board.specs.Records.{Slave}
use Rattle.description_board.specs.Records.{is_native}
use Rattle.description_board.specs.Rules.{widths}
use Rattle.fabric_transfer.specs.declared.Transfer.{Transfer}
use Rattle.fabric_lanes.specs.Lanes.{post_lanes}
use Rattle.fabric_transfer.specs.Alignment.{ratio}
use Rattle.fabric_transfer.specs.Accesses.{write_lanes, access_numbers, accesses, access_number}

pub record CarriedOut (ma : Master) (sl : Slave) (t : Transfer) : Type 0 where
  -- of a write with bus sizing those that write a lane, and no others
  pub written : t.write ≡ true → is_native sl ≡ false → (a : ℕ)
      → member a (access_numbers ma sl t) ≡ (ltb a (t.beats * ratio ma sl) && not (eqb (write_lanes ma sl t a) 0))
  -- of a read, and at a native slave, all
  pub read : t.write ≡ false → access_numbers ma sl t ≡ table (λ a. a) (t.beats * ratio ma sl)
  pub native : is_native sl ≡ true → access_numbers ma sl t ≡ table (λ a. a) (t.beats * ratio ma sl)
  -- each once, in rising order
  pub rising : (k l : ℕ) → k < l → l < accesses ma sl t → access_number ma sl t k < access_number ma sl t l
  -- side by side, where the lanes are those that a post may have
  pub adjacent : member ma.width widths ≡ true → member sl.width widths ≡ true → 1 ≤ t.beats
      → post_lanes ma.width t.lanes t.beats ≡ true → (k : ℕ) → k < accesses ma sl t
      → access_number ma sl t k ≡ access_number ma sl t 0 + k
