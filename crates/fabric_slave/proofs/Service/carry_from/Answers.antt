-- `fabric_slave::carry_from` meets its contract: the access's bytes, or none while the slave waits.
-- Assumes nothing.
use mathlib.Core.Path.{◌∙◌}
use Rattle.fabric_slave.proofs.ServeLaws.{waits_yes, waits_no, carried_waiting, carried_access_lem}
use Rattle.fabric_slave.proofs.Service.carry_from.Goals as goal

pub returns-then-self : goal.returns-then-self
returns-then-self c = carried_waiting _ _ _ _ _ _ c.requires.0.serving (waits_yes _ _ _ c.requires.0.waiting c.if-self.true)

pub returns : goal.returns
returns c =
    c.carry_access.ensures ∙ carried_access_lem _ _ _ _ _ _ c.requires.0.serving (waits_no _ _ _ c.requires.0.waiting c.if-self.false) c.requires.0.placed.number
