-- A run of clocks (rule 4.15) in a history: it counts as its clocks (rule 6.11).
-- Assumes nothing.
use Rattle.std.specs.Prelude.{◌≡◌, List, [], ◌∷◌, ℕ, zero, suc, ◌≤◌, length}
use Rattle.description_board.specs.declared.Board.{Board}
use Rattle.fabric_calls.specs.Calls.{World, after_clock}
use Rattle.fabric_calls.specs.Running.{run}
use Rattle.theorem_history.specs.Claim.{Call, clocks, after, History, answers}

-- n clocks, each handed what the one before left
unfoldable pub clock_calls : Board → World → ℕ → List Call
clock_calls b w zero = []
clock_calls b w (suc n) = clocks b w.state w.store ∷ clock_calls b (after_clock b w) n

-- the clocks that a run of at most so many counts as
abbrev pub run_calls : Board → World → ℕ → List Call
run_calls b w most = clock_calls b w (run b w most).clocks

-- rule 6.11: a run where w stands counts as its clocks: at most so many, a history of their own, none of them refused; what the
-- run leaves is what they leave
pub record Counts (b : Board) (w : World) (most : ℕ) : Type 0 where
  pub few : (run b w most).clocks ≤ most
  pub history : History b w (run_calls b w most)
  pub taken : length (answers (run_calls b w most)) ≡ (run b w most).clocks
  pub leaves : (run b w most).world ≡ after w (run_calls b w most)
