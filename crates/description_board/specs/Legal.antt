-- The legal boards (rules 1.1, 1.6 to 1.8, 7.19, 7.20): those that are not refused.
-- `accepted_legal` and `legal_accepted` prove that the check accepts exactly these.
-- Assumes nothing.
use Rattle.std.specs.Prelude.{◌≡◌, true, false, ◌≢◌, ℕ, ◌/◌, ◌%◌, ◌≤◌, ◌<◌, get_or}
use Rattle.common_laws.specs.Lists.{member}
use Rattle.description_board.specs.declared.Master.{Master}
use Rattle.description_board.specs.Records.{Slave}
use Rattle.description_board.specs.declared.Board.{Board}
use Rattle.description_board.specs.Records.{master_at, slave_at, memory_length}
use Rattle.description_board.specs.Rules.{widths, bursts, spans, meets, too_narrow, has_share}

-- rule 1.6: a master whose values are in their lists
pub record LegalMaster (m : Master) : Type 0 where
  pub width : member m.width widths ≡ true
  pub burst : member m.burst bursts ≡ true

-- rules 1.6, 1.7: a slave whose values are in their lists and ranges, its base a multiple of its span
pub record LegalSlave (s : Slave) : Type 0 where
  pub base : s.base ≤ 4294967295
  pub span : member s.span spans ≡ true
  pub width : member s.width widths ≡ true
  pub burst : member s.burst bursts ≡ true
  pub read_wait : s.read_wait ≤ 255
  pub write_wait : s.write_wait ≤ 255
  pub native : s.native ≤ 1
  pub latency : s.latency ≤ 63
  pub aligned : s.base % s.span ≡ 0

-- rules 1.1, 1.6 to 1.8, 7.19, 7.20: both counts; each master and slave legal; no address in two spans; the spans' total; no share
-- over 100, and none outside the counts; no native slave with a narrower master; every master connected to a slave
pub record Legal (b : Board) : Type 0 where
  pub some_master : 0 < b.master_count
  pub few_masters : b.master_count ≤ 8
  pub some_slave : 0 < b.slave_count
  pub few_slaves : b.slave_count ≤ 16
  pub master : (m : ℕ) → m < b.master_count → LegalMaster (master_at b m)
  pub slave : (s : ℕ) → s < b.slave_count → LegalSlave (slave_at b s)
  pub apart : (s k : ℕ) → s < k → k < b.slave_count → meets (slave_at b k).base (slave_at b k).span (slave_at b s) ≡ false
  pub total : memory_length b ≤ 65536
  pub shares : (i : ℕ) → i < 128 → get_or b.shares i 0 ≢ 0
      → (get_or b.shares i 0 ≤ 100) × (i / 16 < b.master_count) × (i % 16 < b.slave_count)
  pub wide : (i : ℕ) → i < 128 → get_or b.shares i 0 ≢ 0 → too_narrow (master_at b (i / 16)) (slave_at b (i % 16)) ≡ false
  pub connects : (m : ℕ) → m < b.master_count → has_share b m ≡ true
