-- What a run of clocks answers and leaves (rule 4.15).
-- Assumes nothing.
use Rattle.std.specs.Prelude.{cond, List, ℕ, zero, suc, ◌+◌, eqb, replicate}
use Rattle.description_board.specs.declared.Board.{Board}
use Rattle.fabric_state.specs.declared.Line.{Line}
use Rattle.fabric_state.specs.Records.{no_line}
use Rattle.fabric_calls.specs.Calls.{World, clock_refusal, clock, after_clock}

-- rule 4.15: how far a run of clocks has come: the number answered, the clocks passed, the last one's mask, responses and
-- lines, and what stands behind it
pub record Run : Type 0 where
  pub number : ℕ
  pub clocks : ℕ
  pub mask : ℕ
  pub responses : List ℕ
  pub lines : List Line
  pub world : World

-- before the first clock, and the whole of a run of clocks that is refused (rule 8.1): no mask, responses and lines of zeros
abbrev pub standing : ℕ → World → Run
standing n w = record { number = n; clocks = 0; mask = 0; responses = replicate 8 0; lines = replicate 16 no_line; world = w }

-- rule 4.15: one clock more
unfoldable pub clock_more : Board → Run → Run
clock_more b r =
    let a = clock b r.world.state r.world.store in
    record {
      number = a.number;
      clocks = r.clocks + 1;
      mask = a.mask;
      responses = a.responses;
      lines = a.lines;
      world = after_clock b r.world;
    }

-- rule 4.15: at most n clocks more, none behind one that finishes a master
unfoldable pub clock_on : Board → ℕ → Run → Run
clock_on b zero r = r
clock_on b (suc n) r = cond (eqb r.mask 0) (clock_on b n (clock_more b r)) r

-- rules 4.15, 8.1: what `run` answers and leaves: it is refused for what a clock is refused for, with no clock passed
unfoldable pub run : Board → World → ℕ → Run
run b w most =
    let n = clock_refusal b w.state w.store in cond (eqb n 0) (clock_on b most (standing 0 w)) (standing n w)
