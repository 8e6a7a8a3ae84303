-- `fabric::request_refusal` meets its contract: the master is one of the board.
-- Assumes nothing.
use native.Mathlib.Omega.{arith}
use Rattle.description_board.proofs.Accepted.{accepted_legal}
use Rattle.fabric.proofs.request_refusal.Goals as goal

pub master_at-ma-requires : goal.master_at-ma-requires
master_at-ma-requires c = omega (arith, c.requires.1, (accepted_legal _ c.requires.0).few_masters)
