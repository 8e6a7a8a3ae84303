-- Reads with latency in a history (rule 4.16): behind the clock of a last access the slave is free, and the finish comes exactly so
-- many clocks later as the transfer has latency. `finished_behind` proves it for every board that a reset does not refuse.
-- Assumes nothing.
use Rattle.std.specs.Prelude.{◌≡◌, true, false, List, ◌∷◌, ℕ, ◌+◌, ◌<◌, length, take}
use Rattle.description_board.specs.declared.Board.{Board}
use Rattle.description_board.specs.Records.{slave_at}
use Rattle.fabric_transfer.specs.Accesses.{latency_of}
use Rattle.fabric_state.specs.Records.{transfer_at, slot_at, late_at}
use Rattle.fabric_state.specs.Control.{step_of}
use Rattle.fabric_calls.specs.Calls.{World}
use Rattle.theorem_history.specs.Claim.{Call, clocks, number_answered, next, answers, names, any}

-- the clock where w stands
abbrev pub clock_here : Board → World → Call
clock_here b w = clocks b w.state w.store

-- it is taken, and slave s carries out the last access of master m's transfer in it
pub record LastAccess (b : Board) (w : World) (m s : ℕ) : Type 0 where
  pub taken : number_answered (clock_here b w) ≡ 0
  pub slave : s < b.slave_count
  pub last : (step_of b w.state s).last ≡ true
  pub owner : (step_of b w.state s).line.owner ≡ m

-- the latency of that transfer there: 0 for a write
abbrev pub latency_there : Board → World → ℕ → ℕ → ℕ
latency_there b w m s = latency_of (slave_at b s) (transfer_at w.state m)

-- rule 4.16: that clock and the calls behind it
pub record FinishedBehind (b : Board) (w : World) (m s : ℕ) (calls : List Call) : Type 0 where
  -- the slave serves no longer, and all latency clocks are to pass
  pub free : (slot_at (next w (clock_here b w)).state s).serving ≡ false
  pub late : late_at (next w (clock_here b w)).state m ≡ latency_there b w m s
  -- of its answer and those behind it none names the master before so many have passed, and the next one does
  pub before : any (names m) (take (latency_there b w m s) (answers (clock_here b w ∷ calls))) ≡ false
  pub then : latency_there b w m s < length (answers (clock_here b w ∷ calls))
      → any (names m) (take (latency_there b w m s + 1) (answers (clock_here b w ∷ calls))) ≡ true
