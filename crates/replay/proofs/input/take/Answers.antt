use Rattle.std.proofs.Common.{length-take-le, rules}
use Rattle.replay.proofs.input.take.Goals as goal

pub slice_bounds-read_full-end-2 : goal.slice_bounds-read_full-end-2
slice_bounds-read_full-end-2 c = search (length-take-le, rules)
