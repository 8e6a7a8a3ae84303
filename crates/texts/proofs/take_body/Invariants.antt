use Rattle.std.proofs.Common.{length, ◌≤◌}
use Rattle.texts.proofs.take_body.Given as goal

abbrev pub invariant-loop : goal.invariant-loop
invariant-loop l = l.kept ≤ length l.into
