-- `fabric_check::transfers::target_of` meets its contract.
-- The loop's invariant: the target is the first slave selected from s on.
-- Assumes nothing.
use mathlib.Core.Path.{◌≡◌, sym, ◌∙◌}
use Prim.Native.Nat.{◌<◌}
use native.Mathlib.Omega.{arith}
use native.Mathlib.Nat.{sub-zero}
use Rattle.common_laws.specs.Lists.{first}
use Rattle.common_laws.proofs.TableLaws.{first_here, first_later, first_none}
use Rattle.description_board.specs.declared.Board.{Board}
use Rattle.description_layout.specs.Layout.{board_in}
use Rattle.fabric_transfer.specs.Decoding.{target_of}
use Rattle.fabric_check.proofs.TargetLaws.{selects_here, selects_elsewhere, selects_unconnected}
use Rattle.fabric_check.proofs.transfers.target_of.Goals.{In-loop-s, Start, else-agrees-via-then-agrees+else-shares_at-gt0, else-agrees-via-else-agrees}
use Rattle.fabric_check.proofs.transfers.target_of.Goals as goal

abbrev board : Start → Board
board c = board_in c.args.board.now

-- the slave of a turn is one of the board, and one of 16
slave_in : (c : In-loop-s) → c.loop-s.s < (board c.before.before.before).slave_count
slave_in c = omega (arith, c.loop-s-test.true, c.slave_count-count.ensures)

place_in : (c : In-loop-s) → c.loop-s.s < 16
place_in c = omega (arith, slave_in c, c.requires.0.few)

pub loop-s-init : goal.loop-s-init
unfolding target_of first
loop-s-init c = rw sub-zero

pub slave_at-sl-requires : goal.slave_at-sl-requires
slave_at-sl-requires c = place_in c

pub agrees-requires : goal.agrees-requires
agrees-requires c =
    rw c.slave_at-sl.ensures (c.requires.0.span _ (slave_in (goal.at.agrees-requires c).In-loop-s))

pub shares_at-requires : goal.shares_at-requires
shares_at-requires c = (c.requires.1, place_in (goal.at.shares_at-requires c).In-loop-s)

pub returns-then-shares_at-gt0 : goal.returns-then-shares_at-gt0
returns-then-shares_at-gt0 c =
    let in-turn = slave_in (goal.at.returns-then-shares_at-gt0 c).In-loop-s in
    let here =
    selects_here _ _ _ _ in-turn c.slave_at-sl.ensures c.agrees.ensures
    c.shares_at.ensures c.if-agrees.true c.if-shares_at-gt0.true in
    sym (c.loop-s.invariant ∙ first_here _ _ _ in-turn here)

-- the slave of a turn that goes on is not selected
pub loop-s-preserved : goal.loop-s-preserved
loop-s-preserved c =
    c.loop-s.invariant
    ∙ first_later _ _ _ (slave_in (goal.at.loop-s-preserved c).In-loop-s)
    (elim c.else-agrees.branch [
      | else-agrees-via-then-agrees+else-shares_at-gt0 w ↦ selects_unconnected _ _ _ _ w.shares_at.ensures w.if-shares_at-gt0.false
      | else-agrees-via-else-agrees w ↦ selects_elsewhere _ _ _ _ c.slave_at-sl.ensures c.agrees.ensures w.if-agrees.false
    ])

pub returns : goal.returns
returns c =
    let l = c.loop-s in
    let n = c.slave_count-count.ensures in
    let e : l.s ≡ (board (goal.at.returns c).Start).slave_count = omega (arith, n, c.loop-s-test.false, l.auto.s-end) in
    n ∙ sym e ∙ sym (l.invariant ∙ first_none _ _ _ (omega (arith, e)))
