-- `fabric::clock` meets its contract: refused, with lines and responses cleared, or one cycle.
-- Assumes nothing.
use mathlib.Core.Path.{◌≡◌, refl, sym, ◌∙◌}
use Rattle.common_numbers.proofs.RefusalLaws.{refusal_not_zero}
use Rattle.description_layout.specs.Layout.{board_in}
use Rattle.fabric_layout.specs.Layout.{state_in}
use Rattle.fabric_layout.proofs.StatePutLaws.{first_none}
use Rattle.fabric_layout.proofs.LogPutLaws.{responses_none}
use Rattle.fabric_calls.specs.Calls.{clock_refusal}
use Rattle.fabric_calls.proofs.ClockLaws.{exact_lengths, clock_refused}
use Rattle.fabric.proofs.ClockTaken.{clock_taken_lem}
use Rattle.fabric.proofs.ResponseLaws.{responses_are}
use Rattle.fabric_calls.proofs.RunOfClocks.{accepted_board, keeps_rules}
use Rattle.fabric.proofs.clock.Goals.{In-Ok}
use Rattle.fabric.proofs.clock.Goals as goal

pub returns-in-Err : goal.returns-in-Err
returns-in-Err c =
    clock_refused _ _ _ _ _ c.in-Err.ensures.number (refusal_not_zero _) (c.put_responses-in-Err.ensures ∙ responses_none)
    (c.first_lines.ensures ∙ first_none _)

-- nothing is refused
taken : (c : In-Ok) → clock_refusal (board_in c.args.board.now) (state_in (c.args.state.now)) (record { memory = c.args.memory.now; buffer = c.args.buffer.now }) ≡ 0
taken c = sym c.in-Ok.ensures.number

pub cycle-requires : goal.cycle-requires
cycle-requires c =
    let z = taken (goal.at.cycle-requires c).In-Ok in
    let exact = exact_lengths (board_in c.args.board.now) (state_in (c.args.state.now)) (record { memory = c.args.memory.now; buffer = c.args.buffer.now }) z in (
      record {
        board = accepted_board (board_in c.args.board.now) (state_in (c.args.state.now)) (record { memory = c.args.memory.now; buffer = c.args.buffer.now }) z;
        state = keeps_rules (board_in c.args.board.now) (state_in (c.args.state.now)) (record { memory = c.args.memory.now; buffer = c.args.buffer.now }) z;
      },
      c.in-Ok.ensures.holders refl,
      c.in-Ok.ensures.unmapped refl,
      exact.0,
      exact.1,
    )

pub returns-in-Ok : goal.returns-in-Ok
returns-in-Ok c =
    clock_taken_lem _ _ _ _ _ (taken (goal.at.returns-in-Ok c).In-Ok)
    (responses_are _ _ (c.in-Ok.ensures.unmapped refl)
    c.put_responses.ensures)
    c.cycle.ensures
