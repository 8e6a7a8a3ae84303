-- The claim of rules 6.1 to 6.13 holds whole of every board that a reset does not refuse, the board of every accepted text among
-- them.
-- Assumes nothing.
use mathlib.Core.Path.{◌≡◌, refl, sym, ◌∙◌}
use mathlib.Core.List.{List}
use Prim.Native.Nat.{ℕ}
use Rattle.description_board.specs.declared.Board.{Board}
use Rattle.description_board.specs.Items.{board_refusal}
use Rattle.description_board.specs.Legal.{Legal}
use Rattle.description_board.proofs.Accepted.{accepted_legal}
use Rattle.description.specs.Reader.{read_text}
use Rattle.description.proofs.Trip.{read_accepted}
use Rattle.fabric_calls.specs.Calls.{reset}
use Rattle.theorem_history.specs.Claim.{Order, Demand3}
use Rattle.theorem_history.proofs.Histories.Unrefused.{unrefused}
use Rattle.theorem_history.proofs.Safe.WithinWait.{within, finished}
use Rattle.theorem_history.proofs.Exact.ExactHistory.{exact_history}
use Rattle.theorem_history.proofs.Quoted.QuotedFigures.{figures}
use Rattle.theorem_history.proofs.Quoted.LongestTransfer.{longest}
use Rattle.theorem_history.proofs.ReadBytes.LineOrders.{numbers, times_numbers}
use Rattle.theorem_history.proofs.ReadBytes.HistoryBytes.{reads_right}
use Rattle.theorem_history.proofs.Unmapped.DecodeErrors.{unmapped_right}
use Rattle.theorem_history.proofs.Unmapped.HistoryLog.{okay_right, log_right, taken_right}

reset_checks : (b : Board) → (reset b).number ≡ board_refusal b
unfolding reset
reset_checks b = refl

pub demand3 : (b : Board) → (reset b).number ≡ 0 → Demand3 b
demand3 b ok = record {
  within = within b legal;
  finished = finished b legal;
  exact = exact_history b legal;
  quoted = figures b legal checked;
  longest = longest b legal checked;
  reads = reads_right b legal;
  served = unrefused b legal;
  unmapped = unmapped_right b legal;
  okay = okay_right b legal;
  log = log_right b legal;
  taken = taken_right b legal;
}
  where
    checked : board_refusal b ≡ 0
    checked = sym (reset_checks b) ∙ ok

    legal : Legal b
    legal = accepted_legal b checked

-- a text that is not refused reads to a board that a reset does not refuse
pub text_demand3 : (text : List ℕ) → (read_text text).number ≡ 0 → Demand3 (read_text text).board
unfolding reset
text_demand3 text accepted = demand3 (read_text text).board (read_accepted text accepted)

-- the reads of the claim are about some order: that by slave number is one
pub by_number : Order
by_number = record { slaves = numbers 16; once = times_numbers 16 }
