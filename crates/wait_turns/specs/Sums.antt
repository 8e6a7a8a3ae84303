-- The turns at a slave, added up once for all its masters. `turns_once` proves that each wait is this sum without the own turn.
-- Assumes nothing.
use Rattle.std.specs.Prelude.{◌≡◌, cond, ℕ, ◌+◌, ◌^◌, ◌<◌}
use Rattle.common_laws.specs.Lists.{sum}
use Rattle.description_board.specs.declared.Board.{Board}
use Rattle.description_board.specs.Records.{master_at, slave_at, shares_at, connected}
use Rattle.wait_turns.specs.Waits.{longest_access, single_access, turn, turns_of, quoted_wait}

-- rule 5.6: the turn of master k at slave s; 0 where they are not connected
unfoldable pub turn_at : Board → ℕ → ℕ → ℕ → ℕ → ℕ
turn_at b a v s k = cond (connected b k s) (turn (master_at b k) (slave_at b s) (shares_at b k s) a v) 0

-- rule 5.7: the turns of all masters at slave s, whatever a and v are
unfoldable pub turns_at : Board → ℕ → ℕ → ℕ → ℕ
turns_at b a v s = sum (turn_at b a v s) b.master_count

-- rule 5.7: what the sum at slave s gives. With an a and a v of 32 bits it fits 64; the turns of the others and the own turn together
-- are that sum, whatever a and v are; and so are a wait and the own turn, with the a of rule 5.6 and the v of rule 5.1.
pub record Once (b : Board) (s : ℕ) : Type 0 where
  pub fits : (a v : ℕ) → a < 2 ^ 32 → v < 2 ^ 32 → turns_at b a v s < 2 ^ 64
  pub others : (a v m : ℕ) → m < b.master_count → turns_of b a v m s + turn_at b a v s m ≡ turns_at b a v s
  pub waits : (m : ℕ) → m < b.master_count
      → let a = single_access (slave_at b s) in
      let v = longest_access (slave_at b s) in
      quoted_wait b m s + turn_at b a v s m ≡ turns_at b a v s
