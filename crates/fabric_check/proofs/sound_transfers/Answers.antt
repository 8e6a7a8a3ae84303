-- `fabric_check::sound_transfers` meets its contract. The loop's invariant: no transfer before m breaks a rule, and the slaves of
-- those stand at their indices.
-- Assumes nothing.
use mathlib.Core.Bool.{true, true≢false}
use mathlib.Core.Path.{◌≡◌, refl, sym, ◌∙◌}
use native.Mathlib.Omega.{arith}
use borrow.Author.Rules.{rules}
use Rattle.common_laws.specs.Lists.{every}
use Rattle.common_laws.proofs.FillLaws.{filled_none}
use Rattle.description_layout.specs.Layout.{board_in}
use Rattle.fabric_state.specs.Soundness.{sound_transfer}
use Rattle.fabric_layout.specs.Layout.{state_in}
use Rattle.fabric_check.proofs.CheckLaws.{every_next, every_not, read_sound, targets_next, targets_all}
use Rattle.fabric_check.proofs.sound_transfers.Goals.{After-held_at}
use Rattle.fabric_check.proofs.sound_transfers.Goals as goal

-- what the code tests is the transfer's rule
tested : (c : After-held_at) → let a = c.args in
    c.held_at.result ≡ sound_transfer (board_in a.board.now) (state_in a.st.now) c.loop-m.m
tested c =
    c.held_at.ensures.sound ∙ read_sound _ _ _ c.transfer_at-t.ensures c.late_at-late.ensures

pub loop-m-init : goal.loop-m-init
unfolding every
loop-m-init c = (refl, filled_none _ _ 8 0 _ (search rules) (λ k h. refl))

pub returns-then-not-held_at : goal.returns-then-not-held_at
returns-then-not-held_at c =
    let broken = sym (tested (goal.at.returns-then-not-held_at c).After-held_at) ∙ c.if-not-held_at.true in record {
      sound = sym (every_not _ 8 _ c.loop-m-test.true broken);
      targets = λ q. absurd (true≢false (sym q));
    }

pub loop-m-preserved : goal.loop-m-preserved
loop-m-preserved c =
    let l = c.loop-m in
    let passed : c.held_at.result ≡ true = c.if-not-held_at.false in
    let st = state_in c.args.st.now in
    let read = c.transfer_at-t.ensures in (
      every_next _ _ l.invariant.0 (sym (tested (goal.at.loop-m-preserved c).After-held_at) ∙ passed),
      targets_next _ st _ read _ c.held_at.ensures passed l.invariant.1,
    )

pub returns : goal.returns
returns c =
    let l = c.loop-m in
    let e : l.m ≡ 8 = omega arith in record {
      sound = sym (rw e at l.invariant.0);
      targets = λ q. targets_all _ _ _ _ (omega arith) l.invariant.1;
    }
