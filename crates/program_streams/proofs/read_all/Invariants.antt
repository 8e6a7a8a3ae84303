use Rattle.std.proofs.Common.{length, ◌≡◌}
use Rattle.program_streams.specs.Reading.{going}
use Rattle.program_streams.proofs.ReadLaws.{Reached}
use Rattle.program_streams.proofs.read_all.Given as goal

abbrev pub invariant-loop : goal.invariant-loop
invariant-loop g l = record { kept : length l.into ≡ length l.initial.into; reached : Reached going l.into l.end l.counter }
