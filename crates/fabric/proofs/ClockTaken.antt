-- What a clock that is not refused answers and leaves, by what the cycle left.
-- Assumes nothing.
use mathlib.Core.Path.{◌≡◌, refl}
use mathlib.Core.List.{List}
use Prim.Native.Nat.{ℕ}
use Rattle.description_board.specs.declared.Board.{Board}
use Rattle.fabric_transfer.specs.Bytes.{Store}
use Rattle.fabric_state.specs.Control.{responses_of}
use Rattle.fabric_layout.specs.Layout.{state_in, lines_in}
use Rattle.fabric_layout.specs.Numbers.{Marks}
use Rattle.fabric_cycle.specs.Code.Cycles.{Clocks as Cycled}
use Rattle.fabric_calls.specs.Calls.{clock_refusal, clock, store_after_clock}
use Rattle.fabric_calls.specs.Lent.{Clocks}

module _ (b : Board) (before responses lines : List ℕ) (d : Store) where
  pub clock_taken_lem : {after : List ℕ} {left : Store} {mask : ℕ} → clock_refusal b (state_in before) d ≡ 0
      → responses ≡ responses_of b (state_in before)
      → Cycled b (state_in before) (state_in after) (lines_in lines) mask d left × Marks before after
      → Clocks b before after responses lines d left 0 mask
  unfolding clock store_after_clock
  clock_taken_lem z r c = record {
    answer = rw (z, r, c.0.state, c.0.lines, c.0.mask);
    stored = rw z c.0.store;
    marks = c.1;
    kept = λ h. absurd (h refl);
  }
