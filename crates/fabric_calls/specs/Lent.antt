-- The calls on lent arrays: what each answers and leaves, by the definitions of the calls on what the arrays say (rule 2.4).
-- What a reset, a post and a take leave is also said number by number; of a clock and a run of clocks, what is true of each mark's
-- number. A refusal leaves every number of the state as it was (rule 8.1).
-- Assumes nothing.
use Rattle.std.specs.Prelude.{◌≡◌, List, ◌≢◌, ℕ}
use Rattle.description_board.specs.declared.Board.{Board}
use Rattle.fabric_transfer.specs.Bytes.{Store}
use Rattle.fabric_state.specs.Posting.{Request, transfer_of}
use Rattle.fabric_layout.specs.Layout.{state_in, lines_in}
use Rattle.fabric_layout.specs.Numbers.{numbers_of_state, transfer_put, oldest_removed, Marks}
use Rattle.fabric_calls.specs.Calls.{Take, reset, post, buffer_after_post, clock, store_after_clock, take_answer, state_after_take}
use Rattle.fabric_calls.specs.Running.{run}

-- rules 2.4, 4.2, 8.1: a reset: its number, and the state's numbers before and after
pub record Resets (b : Board) (before after : List ℕ) (number : ℕ) : Type 0 where
  pub answer : number ≡ (reset b).number
  pub state : number ≡ 0 → state_in after ≡ (reset b).state
  pub numbers : number ≡ 0 → after ≡ numbers_of_state (reset b).state
  pub kept : number ≢ 0 → after ≡ before

-- rules 2.4, 3.2, 3.3, 8.1: a post: its number, the state's numbers and the buffer before and after
pub record Posts (b : Board) (q : Request) (before after buffer left : List ℕ) (number : ℕ) : Type 0 where
  pub answer : record { number = number; state = state_in after } ≡ post b (state_in before) buffer q
  pub stored : left ≡ buffer_after_post b (state_in before) buffer q
  pub numbers : number ≡ 0 → after ≡ transfer_put before q.master (transfer_of q)
  pub kept : number ≢ 0 → after ≡ before

-- rules 2.4, 4.13, 8.1: a clock: its number and mask, the state's numbers before and after, the responses, the lines, the lent bytes d and
-- what is left of them
pub record Clocks (b : Board) (before after responses lines : List ℕ) (d left : Store) (number mask : ℕ) : Type 0 where
  pub answer : record {
    number = number;
    state = state_in after;
    mask = mask;
    responses = responses;
    lines = lines_in lines;
  }
      ≡ clock b (state_in before) d
  pub stored : left ≡ store_after_clock b (state_in before) d
  pub marks : Marks before after
  pub kept : number ≢ 0 → after ≡ before

-- rules 2.4, 4.15, 8.1: a run of at most so many clocks, likewise
pub record Runs (b : Board) (most : ℕ) (before after responses lines : List ℕ) (d left : Store) (number clocks mask : ℕ) : Type 0 where
  pub answer : record {
    number = number;
    clocks = clocks;
    mask = mask;
    responses = responses;
    lines = lines_in lines;
    world = record { state = state_in after; store = left };
  }
      ≡ run b (record { state = state_in before; store = d }) most
  pub marks : Marks before after
  pub kept : number ≢ 0 → after ≡ before

-- rules 2.4, 4.19, 8.1: a take: its answer, and the state's numbers before and after
pub record Takes (b : Board) (before after : List ℕ) (a : Take) : Type 0 where
  pub answer : a ≡ take_answer b (state_in before)
  pub state : state_in after ≡ state_after_take b (state_in before)
  pub numbers : a.number ≡ 0 → after ≡ oldest_removed before
  pub kept : a.number ≢ 0 → after ≡ before
