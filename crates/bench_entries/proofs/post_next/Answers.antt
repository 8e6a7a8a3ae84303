-- `bench_entries::post_next` is safe and ends. Assumes nothing.
use Rattle.std.proofs.Common.{sym, arith, length-take-le}
use Rattle.bench_entries.proofs.post_next.Goals as goal

pub slice_bounds-post-end : goal.slice_bounds-post-end
slice_bounds-post-end c = sym (length-take-le _ _ (omega arith))
