-- `fabric_slave::served` meets its contract: a wait, an access, the last access.
-- Assumes nothing.
use native.Mathlib.Omega.{arith}
use Rattle.fabric_state.specs.Control.{slot_finished}
use Rattle.fabric_slave.proofs.ServeLaws.{wait_fits, waits_yes, waits_no, on_waiting, on_working, step_ending}
use Rattle.fabric_slave.proofs.Service.served.Goals as goal

pub overflow_add-result : goal.overflow_add-result
overflow_add-result c =
    let a = c.args.self in
    let h = waits_yes _ _ _ c.requires.waiting c.if-self.true in
    omega (arith, h, wait_fits a.posting.pair.slave a.posting.transfer 4294967296 (omega arith) (omega arith))

pub returns-then-self : goal.returns-then-self
returns-then-self c =
    on_waiting _ _ _ _ c.requires.serving (waits_yes _ _ _ c.requires.waiting c.if-self.true) c.line_of.ensures

pub returns-then-from-self : goal.returns-then-from-self
returns-then-from-self c =
    on_working _ _ _ _ (waits_no _ _ _ c.requires.waiting c.if-self.false) c.line_of-line.ensures
    c.requires.total c.requires.serving (rw c.from.ensures at c.if-from-self.true)

pub returns : goal.returns
unfolding slot_finished
returns c =
    step_ending _ _ _ _ (waits_no _ _ _ c.requires.waiting c.if-self.false) c.line_of-line.ensures
    c.requires.total (rw c.from.ensures at c.if-from-self.false)
