-- The figures of a pair: v, n, single, serve, turn and wait (rules 5.1 to 5.7).
-- Assumes nothing.
use Rattle.std.specs.Prelude.{cond, not, ◌&&◌, ℕ, ◌+◌, ◌-◌, ◌*◌, ◌/◌, min, max, eqb}
use Rattle.common_laws.specs.Lists.{sum}
use Rattle.description_board.specs.declared.Master.{Master}
use Rattle.description_board.specs.Records.{Slave}
use Rattle.description_board.specs.declared.Board.{Board}
use Rattle.description_board.specs.Records.{master_at, slave_at, shares_at, connected}
use Rattle.fabric_transfer.specs.Alignment.{ratio}

-- rule 5.1: v, the clocks of one access at its longest
unfoldable pub longest_access : Slave → ℕ
longest_access sl = 1 + max sl.read_wait sl.write_wait

-- rule 5.6: the clocks of one access of a single that is not the last transfer of a turn: v; where the slave has latency a read
-- ends its master's turn, so that it is a write
unfoldable pub single_access : Slave → ℕ
single_access sl = cond (eqb sl.latency 0) (longest_access sl) (1 + sl.write_wait)

-- rule 5.3: n, the most beats of one transfer
unfoldable pub most_beats : Master → Slave → ℕ
most_beats ma sl = min ma.burst (sl.span / ma.width)

-- rules 5.5, 5.6: a single, by the clocks of one access: r × v at its longest
unfoldable pub single : Master → Slave → ℕ → ℕ
single ma sl a = ratio ma sl * a

-- rule 5.5: n × r × v, the serve
unfoldable pub serve : Master → Slave → ℕ → ℕ
serve ma sl v = most_beats ma sl * ratio ma sl * v

-- rule 5.6: a turn, by the clocks a of an access of its singles, and by v
unfoldable pub turn : Master → Slave → ℕ → ℕ → ℕ → ℕ
turn ma sl shares a v = (shares - 1) * single ma sl a + serve ma sl v

-- rules 5.6, 5.7: the turn of master k at slave s, where another master m waits for it; 0 where it is not connected
unfoldable pub other_turn : Board → ℕ → ℕ → ℕ → ℕ → ℕ → ℕ
other_turn b a v m s k =
    cond (connected b k s && not (eqb k m)) (turn (master_at b k) (slave_at b s) (shares_at b k s) a v) 0

-- rule 5.7: the sum of the other turns, for any a and v
unfoldable pub turns_of : Board → ℕ → ℕ → ℕ → ℕ → ℕ
turns_of b a v m s = sum (other_turn b a v m s) b.master_count

-- rule 5.7: the wait of master m at slave s
unfoldable pub quoted_wait : Board → ℕ → ℕ → ℕ
quoted_wait b m s = turns_of b (single_access (slave_at b s)) (longest_access (slave_at b s)) m s

-- rule 5.5: the serve of master m at slave s
unfoldable pub serve_of : Board → ℕ → ℕ → ℕ
serve_of b m s = serve (master_at b m) (slave_at b s) (longest_access (slave_at b s))
