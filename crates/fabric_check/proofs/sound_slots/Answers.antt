-- `fabric_check::sound_slots` meets its contract. The loop's invariant: no slot before s breaks a rule.
-- Assumes nothing.
use mathlib.Core.Path.{◌≡◌, refl, sym, ◌∙◌}
use Prim.Native.Nat.{◌<◌}
use native.Mathlib.Omega.{arith}
use Rattle.common_laws.specs.Lists.{every}
use Rattle.description_board.proofs.Accepted.{accepted_legal}
use Rattle.description_board.specs.declared.Board.{Board}
use Rattle.description_layout.specs.Layout.{board_in}
use Rattle.fabric_state.specs.Soundness.{sound_slot}
use Rattle.fabric_state.specs.declared.State.{State}
use Rattle.fabric_layout.proofs.StatePutLaws.{transfers_length}
use Rattle.fabric_layout.specs.Layout.{state_in}
use Rattle.fabric_check.proofs.CheckLaws.{every_next, every_not, slot_stranger, slot_parts, slot_posted}
use Rattle.fabric_check.proofs.sound_slots.Goals.{After-sound_slot_by, After-struct_known-in-loop-s-1, In-loop-s, Start}
use Rattle.fabric_check.proofs.sound_slots.Goals as goal

abbrev board : Start → Board
board c = board_in c.args.board.now

abbrev state : Start → State
state c = state_in c.args.st.now

-- the slave of a turn is one of the board, and one of 16
slave_in : (c : In-loop-s) → c.loop-s.s < (board_in c.args.board.now).slave_count
slave_in c = omega (arith, c.loop-s-test.true, c.slave_count-s-end.ensures)

place_in : (c : In-loop-s) → c.loop-s.s < 16
place_in c = omega (arith, slave_in c, (accepted_legal _ c.requires.board).few_slaves)

owner_in : (c : After-struct_known-in-loop-s-1)
    → c.slot_at-slot.result.owner < (board_in c.args.board.now).master_count
owner_in c = omega (arith, c.if-masters-slot.false, c.master_count-masters.ensures)

owner_known : (c : After-struct_known-in-loop-s-1) → c.slot_at-slot.result.owner < 8
owner_known c = omega (arith, owner_in c, (accepted_legal _ c.requires.board).few_masters)

-- what the code tests is the slot's rule
tested : (c : After-sound_slot_by) → c.sound_slot_by.result ≡ sound_slot (board_in c.args.board.now) (state_in c.args.st.now) c.loop-s.s
tested c =
    c.sound_slot_by.ensures
    ∙ slot_parts (board_in c.args.board.now) (state_in c.args.st.now) _ c.slot_at-slot.ensures
    c.master_count-masters.ensures c.args.targets.now c.requires (transfers_length _)
    (omega (arith, c.loop-s-test.true, c.slave_count-s-end.ensures)) c.if-masters-slot.false c.shares_at-share.ensures c.master_at-master.ensures
    c.slave_at-slave.ensures c.transfer_at-transfer.ensures c.late_at-late.ensures

pub loop-s-init : goal.loop-s-init
unfolding every
loop-s-init c = refl

pub slot_at-slot-requires : goal.slot_at-slot-requires
slot_at-slot-requires c = place_in c

pub returns-then-masters-slot : goal.returns-then-masters-slot
returns-then-masters-slot c =
    let masters = c.master_count-masters.ensures in
    sym (every_not _ _ _ (slave_in (goal.at.returns-then-masters-slot c).In-loop-s) (slot_stranger _ _ _ c.slot_at-slot.ensures masters c.if-masters-slot.true))

pub shares_at-share-requires : goal.shares_at-share-requires
shares_at-share-requires c = (owner_known c, place_in (goal.at.shares_at-share-requires c).In-loop-s)

pub master_at-master-requires : goal.master_at-master-requires
master_at-master-requires c = owner_known (goal.at.master_at-master-requires c).After-struct_known-in-loop-s-1

pub slave_at-slave-requires : goal.slave_at-slave-requires
slave_at-slave-requires c = place_in (goal.at.slave_at-slave-requires c).In-loop-s

pub transfer_at-transfer-requires : goal.transfer_at-transfer-requires
transfer_at-transfer-requires c = owner_known (goal.at.transfer_at-transfer-requires c).After-struct_known-in-loop-s-1

pub late_at-late-requires : goal.late_at-late-requires
late_at-late-requires c = owner_known (goal.at.late_at-late-requires c).After-struct_known-in-loop-s-1

pub offset_bounds-targets-owner : goal.offset_bounds-targets-owner
offset_bounds-targets-owner c =
    omega (arith, owner_known (goal.at.offset_bounds-targets-owner c).After-struct_known-in-loop-s-1)

pub bounds-targets-owner : goal.bounds-targets-owner
bounds-targets-owner c = owner_known (goal.at.bounds-targets-owner c).After-struct_known-in-loop-s-1

pub sound_slot_by-requires : goal.sound_slot_by-requires
sound_slot_by-requires c =
    λ q.
    slot_posted (board (goal.at.sound_slot_by-requires c).Start) (state (goal.at.sound_slot_by-requires c).Start) c.args.targets.now c.requires (transfers_length _) _ _ c.late_at-late.result
    (slave_in (goal.at.sound_slot_by-requires c).In-loop-s)
    (owner_in (goal.at.sound_slot_by-requires c).After-struct_known-in-loop-s-1) q c.master_at-master.ensures c.slave_at-slave.ensures c.transfer_at-transfer.ensures

pub returns-then-not-sound_slot_by : goal.returns-then-not-sound_slot_by
returns-then-not-sound_slot_by c =
    sym (every_not _ _ _ (slave_in (goal.at.returns-then-not-sound_slot_by c).In-loop-s) (sym (tested (goal.at.returns-then-not-sound_slot_by c).After-sound_slot_by) ∙ c.if-not-sound_slot_by.true))

pub loop-s-preserved : goal.loop-s-preserved
loop-s-preserved c =
    every_next _ _ c.loop-s.invariant (sym (tested (goal.at.loop-s-preserved c).After-sound_slot_by) ∙ c.if-not-sound_slot_by.false)

pub returns : goal.returns
returns c =
    let n = c.slave_count-s-end.ensures in
    let b = board (goal.at.returns c).Start in
    let e : c.loop-s.s ≡ b.slave_count = omega (arith, n, c.loop-s-test.false, c.loop-s.auto.s-end) in
    sym (rw e at c.loop-s.invariant)
