-- Gives the code of description_check its shape: what the fast accept finds of a board's masters, slaves and shares.
-- Assumes nothing.
use Rattle.std.specs.Prelude.{◌≡◌, Bool, true, false, cond, ◌&&◌, List, ◌≢◌, ℕ, ◌+◌, ◌*◌, ◌%◌, ◌≤◌, ◌<◌, leb, ltb, get_or, take}
use Rattle.std.specs.Int.{is_power_of_two}
use Rattle.common_laws.specs.Lists.{member}
use Rattle.description_board.specs.declared.Master.{Master}
use Rattle.description_board.specs.Records.{Slave}
use Rattle.description_board.specs.declared.Board.{Board}
use Rattle.description_board.specs.Records.{no_master, no_slave, master_at, slave_at, shares_at, total_span}
use Rattle.description_board.specs.Rules.{widths, bursts, slave_values, meets, too_narrow}
use Rattle.description_board.specs.Items.{slave_numbers}

-- a power of two, which has one bit set, up to so much (rule 1.6)
unfoldable pub power_up_to : ℕ → ℕ → Bool
power_up_to most x = leb x most && is_power_of_two x

-- the first n masters (rule 1.6)
pub record MastersFit (masters : List Master) (n : ℕ) : Type 0 where
  pub each : (m : ℕ) → m < n
      → (member (get_or masters m no_master).width widths ≡ true) × (member (get_or masters m no_master).burst bursts ≡ true)

-- one slave by itself, apart from its native (rules 1.6, 1.7)
pub record SlaveFits (s : Slave) : Type 0 where
  pub values : s.native ≤ 1 → slave_values (slave_numbers s) ≡ true
  pub aligned : s.base % s.span ≡ 0

-- the span at base meets none of the first n slaves (rule 1.7)
pub record Clear (base span : ℕ) (slaves : List Slave) (n : ℕ) : Type 0 where
  pub each : (k : ℕ) → k < n → meets base span (get_or slaves k no_slave) ≡ false

-- the first n slaves' native is up to a number: where that is 0, none of them is native
pub record NativesUpTo (slaves : List Slave) (n native : ℕ) : Type 0 where
  pub each : (k : ℕ) → k < n → (get_or slaves k no_slave).native ≤ native

-- the first n slaves, each by itself and together (rules 1.6, 1.7), and whether one is native
pub record SlavesFit (slaves : List Slave) (n native : ℕ) : Type 0 where
  pub each : (k : ℕ) → k < n → SlaveFits (get_or slaves k no_slave)
  pub apart : (j k : ℕ) → j < k → k < n
      → meets (get_or slaves k no_slave).base (get_or slaves k no_slave).span (get_or slaves j no_slave) ≡ false
  pub total : total_span (take n slaves) ≤ 65536
  pub up_to : NativesUpTo slaves n native
  pub small : native ≤ 1

-- none of the first n masters is narrower than so many bytes
pub record Narrowest (masters : List Master) (n least : ℕ) : Type 0 where
  pub each : (m : ℕ) → m < n → least ≤ (get_or masters m no_master).width

-- of the first k masters, none with shares at slave s is narrower than so many bytes (rule 7.19)
pub record ColumnFits (b : Board) (s width k : ℕ) : Type 0 where
  pub each : (m : ℕ) → m < k → shares_at b m s ≢ 0 → width ≤ (master_at b m).width

-- none of the 8 masters with shares at the slave is too narrow, unless it is narrower than least (rule 7.19)
pub record WideEnough (b : Board) (s : ℕ) (slave : Slave) (least : ℕ) : Type 0 where
  pub each : (m : ℕ) → m < 8 → shares_at b m s ≢ 0 → least ≤ (master_at b m).width → too_narrow (master_at b m) slave ≡ false

-- none of the first masters is too narrow for one of the first n slaves that it has shares at (rule 7.19)
pub record NativesFit (b : Board) (n masters : ℕ) : Type 0 where
  pub each : (s : ℕ) → s < n → (m : ℕ) → m < masters → shares_at b m s ≢ 0 → too_narrow (master_at b m) (slave_at b s) ≡ false

-- the most shares at slave s of n (rules 1.6, 1.8)
unfoldable pub share_limit : ℕ → ℕ → ℕ
share_limit s n = cond (ltb s n) 100 0

-- the shares of master m at the first k slaves: at most 100, and none from slave n on (rules 1.6, 1.8)
pub record RowFits (shares : List ℕ) (m n k : ℕ) : Type 0 where
  pub each : (s : ℕ) → s < k → get_or shares (16 * m + s) 0 ≢ 0 → (get_or shares (16 * m + s) 0 ≤ 100) × (s < n)

-- no share of master m at the first k slaves
pub record RowEmpty (shares : List ℕ) (m k : ℕ) : Type 0 where
  pub each : (s : ℕ) → s < k → get_or shares (16 * m + s) 0 ≡ 0

-- the shares of master m on a board with so many masters and slaves
pub record RowPasses (shares : List ℕ) (m masters slaves : ℕ) : Type 0 where
  pub each : (s : ℕ) → s < 16 → get_or shares (16 * m + s) 0 ≢ 0
      → (get_or shares (16 * m + s) 0 ≤ 100) × (m < masters) × (s < slaves)

-- the shares of the first k masters
pub record SharesFit (shares : List ℕ) (masters slaves k : ℕ) : Type 0 where
  pub row : (m : ℕ) → m < k → RowPasses shares m masters slaves
