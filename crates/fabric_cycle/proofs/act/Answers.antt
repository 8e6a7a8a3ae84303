-- `fabric_cycle::act` meets its contract: the latency clocks, the pass over the slaves, then the lines of no slave. The loop's
-- invariant is said of every state that can have stood before the latency clocks passed.
-- Assumes nothing.
use mathlib.Core.Path.{◌≡◌, ap, ◌∙◌}
use Prim.Native.Nat.{ℕ, ◌<◌}
use native.Mathlib.Omega.{arith}
use lib.Bits.{bit_and}
use lib.Dec.{eqb}
use lib.ListN.{get_or}
use Rattle.common_laws.proofs.TableLaws.{mask}
use Rattle.description_board.specs.Legal.{Legal}
use Rattle.fabric_state.specs.declared.State.{State}
use Rattle.fabric_state.specs.Records.{late_at}
use Rattle.description_layout.specs.Layout.{board_in}
use Rattle.fabric_layout.specs.Layout.{state_in}
use Rattle.fabric_layout.proofs.MarkLaws.{marks_same, marks_then}
use Rattle.fabric_layout.proofs.StatePutLaws.{transfers_length, slots_length, lates_length, lines_length}
use Rattle.fabric_check.specs.Code.Targets.{targets_in, request_mask}
use Rattle.fabric_check.proofs.TargetLaws.{mask_at}
use Rattle.fabric_cycle.proofs.PassLaws.{Begun, runs_legal, pass_begin, pass_ready}
use Rattle.fabric_cycle.proofs.PassLaws.{pass_fits, start_fits, pass_next, pass_end}
use Rattle.fabric_cycle.proofs.act.Goals.{After-pass_latency-free, In-loop-s}
use Rattle.fabric_cycle.proofs.act.Goals as goal

-- the slave of a pass is one of the board
slave_in : (c : In-loop-s) → c.loop-s.s < (board_in c.args.board.now).slave_count
slave_in c = omega (arith, c.loop-s-test.true, c.slave_count-count.ensures)

legal : (c : In-loop-s) → Legal (board_in c.args.board.now)
legal c = runs_legal _ _ (transfers_length _) (slots_length _) (lates_length _) c.requires.0

place_in : (c : In-loop-s) → c.loop-s.s < 16
place_in c = omega (arith, slave_in c, (legal c).few_slaves)

-- what stood before the clock is what the function was handed
begun : (c : After-pass_latency-free) → Begun (board_in c.args.board.now) (state_in c.args.st.now) (state_in c.pass_latency-free.new.st) c.args.holders.now c.pass_latency-free.result
begun c =
    record {
      passes = c.requires.0;
      transfers = transfers_length _;
      slots = slots_length _;
      lates = lates_length _;
      counted = c.pass_latency-free.ensures.0;
      masks = c.requires.1;
    }

-- the mask of a slave's requests
module _ (c : In-loop-s) (u : State)
    (w : Begun (board_in c.args.board.now) u (state_in c.pass_latency-free.new.st) c.args.holders.now
    c.pass_latency-free.result) where
  mask_is : bit_and (get_or c.args.holders.now c.loop-s.s 0) c.pass_latency-free.result.free
      ≡ bit_and (request_mask (targets_in (board_in c.args.board.now) u.transfers) c.loop-s.s)
      (mask (λ m. eqb (late_at u m) 0) 8)
  mask_is =
      ap (λ (x : ℕ). bit_and x c.pass_latency-free.result.free) (mask_at _ _ (place_in c) w.masks)
      ∙ ap (bit_and (request_mask (targets_in (board_in c.args.board.now) u.transfers) c.loop-s.s)) w.counted.free

pub loop-s-init : goal.loop-s-init
loop-s-init c = (
  (λ u w. pass_begin _ _ w.transfers w.slots w.lates w.passes w.counted _ _ (lines_length _)),
  marks_same _,
)

pub bounds-holders-s : goal.bounds-holders-s
bounds-holders-s c = place_in (goal.at.bounds-holders-s c).In-loop-s

pub clock_slave-finished-requires : goal.clock_slave-finished-requires
clock_slave-finished-requires c =
    let w = begun (goal.at.clock_slave-finished-requires c).After-pass_latency-free in
    pass_ready _ _ w.transfers w.slots w.lates w.passes _ (slave_in (goal.at.clock_slave-finished-requires c).In-loop-s) _ _ (c.loop-s.invariant.0 _ w) _
    (mask_is (goal.at.clock_slave-finished-requires c).In-loop-s _ w) c.requires.2 c.requires.3

pub overflow_add-finished : goal.overflow_add-finished
overflow_add-finished c =
    let w = begun (goal.at.overflow_add-finished c).After-pass_latency-free in
    omega (
      arith,
      pass_fits _ _ w.transfers w.slots w.lates w.passes _ (slave_in (goal.at.overflow_add-finished c).In-loop-s) _ _ (c.loop-s.invariant.0 _ w) _
          (mask_is (goal.at.overflow_add-finished c).In-loop-s _ w) _ c.clock_slave-finished.ensures.0,
    )

pub slave_at-sl-requires : goal.slave_at-sl-requires
slave_at-sl-requires c = place_in (goal.at.slave_at-sl-requires c).In-loop-s

pub overflow_add-start : goal.overflow_add-start
overflow_add-start c =
    let w = begun (goal.at.overflow_add-start c).After-pass_latency-free in
    omega (
      arith,
      start_fits _ _ w.transfers w.slots w.lates w.passes _ (slave_in (goal.at.overflow_add-start c).In-loop-s) _ _ (c.loop-s.invariant.0 _ w) _
          (mask_is (goal.at.overflow_add-start c).In-loop-s _ w) c.slave_at-sl.ensures,
    )

pub loop-s-preserved : goal.loop-s-preserved
loop-s-preserved c =
    let i = c.loop-s.invariant in
    let e = c.clock_slave-finished.ensures in
    let k = c.clock_slave-finished.auto in (
      (λ u w.
          pass_next _ _ w.transfers w.slots w.lates w.passes _ (slave_in (goal.at.loop-s-preserved c).In-loop-s) _ _ (i.0 u w) _ (mask_is (goal.at.loop-s-preserved c).In-loop-s u w) _ e.0
          c.slave_at-sl.ensures k.memory k.buffer),
      marks_then i.1 e.1,
    )

pub returns : goal.returns
returns c =
    let w = begun (goal.at.returns c).After-pass_latency-free in
    let p = c.loop-s.invariant.0 _ w in
    let n = c.slave_count-count.ensures in
    let b = board_in c.args.board.now in
    let e : c.loop-s.s ≡ b.slave_count = omega (arith, n, c.loop-s-test.false, p.within) in (
      pass_end _ _ w.transfers w.slots w.lates w.passes _ _ _ _ _ _ _ _ p e n c.first_lines.ensures,
      marks_then c.pass_latency-free.ensures.1 c.loop-s.invariant.1,
    )
