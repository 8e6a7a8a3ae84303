-- The calls of a row, one after another, by the definitions that the contracts cite.
-- Assumes nothing.
use Rattle.std.specs.Prelude.{cond, not, ◌&&◌, List, [], ◌∷◌, ℕ, zero, suc, ltb, eqb, get_or, replicate}
use Rattle.common_laws.specs.Lists.{gather}
use Rattle.description_board.specs.declared.Master.{Master}
use Rattle.description_board.specs.Records.{Slave}
use Rattle.description_board.specs.declared.Board.{Board}
use Rattle.description_board.specs.Records.{memory_length}
use Rattle.fabric_transfer.specs.declared.Transfer.{Transfer}
use Rattle.fabric_transfer.specs.Accesses.{accesses}
use Rattle.fabric_transfer.specs.Runs.{place_of, run_of}
use Rattle.fabric_transfer.specs.Bytes.{buffer_length}
use Rattle.fabric_state.specs.declared.Line.{Line}
use Rattle.fabric_state.specs.Records.{no_line, slot_at}
use Rattle.fabric_state.specs.Posting.{Request}
use Rattle.fabric_calls.specs.Calls.{World, reset, clock, after_post, after_clock}

-- the lengths of a transfer's runs, each taken at its first access
unfoldable pub runs : Master → Slave → Transfer → List ℕ
runs ma sl t = gather (λ k. cond (eqb (place_of ma sl k) 0) (run_of ma sl t k ∷ []) []) (accesses ma sl t)

-- a reset, on a memory and a buffer of zeros
unfoldable pub started : Board → World
started b = record {
  state = (reset b).state;
  store = record { memory = replicate (memory_length b) 0; buffer = replicate buffer_length 0 };
}

-- the line of slave 0 in the next clock
unfoldable pub line_now : Board → World → Line
line_now b w = get_or (clock b w.state w.store).lines 0 no_line

-- what stands behind n clocks
unfoldable pub clocked_from : Board → World → ℕ → World
clocked_from b w zero = w
clocked_from b w (suc n) = clocked_from b (after_clock b w) n

-- the line of slave 0 in each of n clocks
unfoldable pub shown_from : Board → World → ℕ → List Line
shown_from b w zero = []
shown_from b w (suc n) = line_now b w ∷ shown_from b (after_clock b w) n

-- a line of master 0 that waits for an access, and one of the access
abbrev pub waiting : ℕ → ℕ → ℕ → ℕ → Line
waiting offset lanes run place =
    record { phase = 1; owner = 0; offset = offset; lanes = lanes; run = run; place = place }

abbrev pub access : ℕ → ℕ → ℕ → ℕ → Line
access offset lanes run place =
    record { phase = 2; owner = 0; offset = offset; lanes = lanes; run = run; place = place }

-- phase of slave 0 and mask of masters finished, in each of n clocks
unfoldable pub phases : Board → ℕ → World → List (ℕ × ℕ)
phases b zero w = []
phases b (suc n) w = ((line_now b w).phase, (clock b w.state w.store).mask) ∷ phases b n (after_clock b w)

-- the owner of slave 0 in each of n clocks that begins a transfer, masters 0 and 1 always posting theirs before the clock (a post
-- while one is held answers 12 and changes nothing)
unfoldable pub grants : Board → Request → Request → ℕ → World → List ℕ
grants b p q zero w = []
grants b p q (suc n) w =
    let x = after_post b (after_post b w q) p in
    let rest = grants b p q n (after_clock b x) in
    cond (not (slot_at x.state 0).serving && ltb 0 (line_now b x).phase) ((line_now b x).owner ∷ rest) rest
