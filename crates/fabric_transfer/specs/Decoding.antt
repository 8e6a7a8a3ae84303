-- Address decoding (rule 3.6).
-- Assumes nothing.
use Rattle.std.specs.Prelude.{Bool, ◌&&◌, ℕ, ◌/◌, eqb}
use Rattle.description_board.specs.Records.{Slave}
use Rattle.description_board.specs.declared.Board.{Board}
use Rattle.description_board.specs.Records.{slave_at, connected}
use Rattle.common_laws.specs.Lists.{first}

-- rule 3.6: address and base have the same bits of weight span and above. A quotient by 0 is 0, so that every address agrees with
-- a span of 0, which no legal board has.
unfoldable pub agrees : Slave → ℕ → Bool
agrees sl address = eqb (address / sl.span) (sl.base / sl.span)

-- rule 3.6: the address selects slave s for master m
unfoldable pub selects : Board → ℕ → ℕ → ℕ → Bool
selects b m address s = connected b m s && agrees (slave_at b s) address

-- rule 3.6: the slave that a transfer of master m to the address is for, or the count of slaves where there is none
unfoldable pub target_of : Board → ℕ → ℕ → ℕ
target_of b m address = first (selects b m address) b.slave_count
