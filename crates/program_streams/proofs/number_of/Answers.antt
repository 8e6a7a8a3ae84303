use Rattle.std.proofs.Common.{rules, ap, ◌∙◌, ℤ, pos, w32}
use Rattle.std.proofs.lemmas.Int.{to_z-of_z}
use Rattle.std.specs.Prelude.{Option, unwrap_or}
use Rattle.program_streams.specs.Calls.{number_of}
use Rattle.program_streams.proofs.number_of.Goals as goal

pub returns : goal.returns
unfolding number_of
returns c =
    to_z-of_z w32 c.unwrap_or.result (search rules) ∙ c.unwrap_or.ensures
    ∙ ap (λ (o : Option ℤ). unwrap_or o (pos 0)) c.raw_os_error.ensures
