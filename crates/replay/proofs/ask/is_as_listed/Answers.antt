use Rattle.std.proofs.Common.{length-take-le, rules}
use Rattle.replay.proofs.Rules.{first_of}
use Rattle.replay.proofs.ask.is_as_listed.Goals as goal

pub slice_bounds-is_answered-end : goal.slice_bounds-is_answered-end
slice_bounds-is_answered-end c = search (first_of, rules)

pub slice_bounds-is_answered-end-2 : goal.slice_bounds-is_answered-end-2
slice_bounds-is_answered-end-2 c = search (first_of, rules)

pub slice_bounds-is_answered-end-3 : goal.slice_bounds-is_answered-end-3
slice_bounds-is_answered-end-3 c = search (length-take-le, rules)

pub slice_bounds-is_answered-end-4 : goal.slice_bounds-is_answered-end-4
slice_bounds-is_answered-end-4 c = search (length-take-le, rules)
