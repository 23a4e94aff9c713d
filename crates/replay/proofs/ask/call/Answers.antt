use Rattle.std.proofs.Common.{rules}
use Rattle.replay.specs.Known.{Known}
use Rattle.replay.proofs.Rules.{parts-read, known}
use Rattle.replay.proofs.ask.call.Goals as goal

pub size-n-requires : goal.size-n-requires
size-n-requires c = search (known, rules)

pub slice_bounds-is_as_listed-end : goal.slice_bounds-is_as_listed-end
slice_bounds-is_as_listed-end c = search (parts-read, rules)

pub is_as_listed-same-requires : goal.is_as_listed-same-requires
is_as_listed-same-requires c = search (known, rules)

pub compared-requires : goal.compared-requires
compared-requires c d = let k : Known d.listed_call-c.result = search (known, rules) in record { kind_bound = k.kind; refusal_bound = k.refusal }
