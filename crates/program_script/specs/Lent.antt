-- What is lent is no more than there is.
-- Assumes nothing.
use Rattle.std.specs.Prelude.{◌≤◌}
use Rattle.program_script.specs.declared.lending.Lending.{Lending}

-- of the memory no more is lent than can be, and no more can be than the room for it has; of the buffer no more than the room for a
-- longer one has
pub record Within (l : Lending) : Type 0 where
  pub memory : (l.memory_lent ≤ l.memory_most) × (l.memory_most ≤ 65544)
  pub buffer : l.buffer_lent ≤ 4104
