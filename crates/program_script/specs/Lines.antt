-- What a line of a script lends, by what its fields say.
use Rattle.std.specs.Prelude.{ℕ, Bool, List, nat_eq, unwrap_or, slice_get, if◌then◌else◌}

-- what the field at an index says, from 0; 0 after the last one
unfoldable pub value_at : List ℕ → ℕ → ℕ
value_at values i = unwrap_or (slice_get values i) 0

-- whether the first field names the memory, of memory and buffer
unfoldable pub names_memory : List ℕ → Bool
names_memory values = nat_eq (value_at values 0) 0

-- the most that can be lent of the store that a line names: so much of the memory, or 8 bytes over the exact length of the buffer
unfoldable pub most_lent : ℕ → List ℕ → ℕ
most_lent memory values = if names_memory values then memory else 4104
