use Rattle.std.proofs.Common.{refl}
use Rattle.program_streams.specs.Calls.{number_of}
use Rattle.program_streams.proofs.open.Goals as goal

pub returns-in-Err : goal.returns-in-Err
unfolding number_of
returns-in-Err c = λ _. rw c.from_raw_os_error.ensures.code refl
