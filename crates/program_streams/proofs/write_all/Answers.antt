use Rattle.program_streams.proofs.CallLaws.{call_within}
use Rattle.program_streams.proofs.write_all.Goals as goal

pub slice_bounds-rest-count : goal.slice_bounds-rest-count
slice_bounds-rest-count g c = call_within _ _ c.write_once.ensures c.in-Bytes.is

pub slice_bounds-rest-start : goal.slice_bounds-rest-start
slice_bounds-rest-start g c = call_within _ _ c.write_once.ensures c.in-Bytes.is
