-- `fabric_slave::serve` meets its contract: the bytes, then the step.
-- Assumes nothing.
use mathlib.Core.Path.{◌∙◌}
use Rattle.fabric_slave.proofs.ServeLaws.{placed_at, reached_at, from_serving}
use Rattle.fabric_slave.specs.Code.Serving.{Asked}
use Rattle.fabric_slave.proofs.serve.Goals.{After-waits}
use Rattle.fabric_slave.proofs.serve.Goals as goal

pub accesses-requires : goal.accesses-requires
accesses-requires c = c.requires.placed.posted

pub access_number-requires : goal.access_number-requires
access_number-requires c =
    let placed = c.requires.placed in
    (placed.posted, placed.left, placed.few)

-- what is asked once
asked : (c : After-waits)
    → Asked (record {
      posting = c.args.posting;
      slot = c.args.slot;
      total = c.accesses.result;
      access = c.access_number.result;
      waiting = c.waits.result;
    })
asked c = record {
  serving = c.requires.serving;
  placed = placed_at _ _ _ _ c.access_number.ensures c.requires.placed;
  waiting = c.waits.ensures;
  total = c.accesses.ensures;
}

pub carry_from-requires : goal.carry_from-requires
carry_from-requires c = (
  asked (goal.at.carry_from-requires c).After-waits,
  reached_at _ _ _ _ _ _ _ c.access_number.ensures c.requires.reached,
)

pub served-requires : goal.served-requires
served-requires c = asked (goal.at.served-requires c).After-waits

pub returns : goal.returns
returns c =
    record {
      step = c.served.ensures ∙ from_serving _ _ _ _ c.requires.serving;
      store = c.carry_from.ensures;
    }
