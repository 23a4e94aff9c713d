use Rattle.std.proofs.Common.{rules}
use Rattle.replay.proofs.Rules.{first_read}
use Rattle.replay.proofs.ask.case_of.Goals as goal

pub slice_bounds-calls_on-end : goal.slice_bounds-calls_on-end
slice_bounds-calls_on-end c = search (first_read, rules)
