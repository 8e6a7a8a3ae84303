use Rattle.std.proofs.Common.{rules}
use Rattle.description.specs.Reader.{most_bytes}
use Rattle.table.proofs.table_from.Goals as goal

pub prepare-made-requires : goal.prepare-made-requires
unfolding most_bytes
prepare-made-requires g c = search rules
