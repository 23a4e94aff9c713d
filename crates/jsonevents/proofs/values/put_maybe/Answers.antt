use Rattle.std.proofs.Common.{rules}
use Rattle.jsonpieces.proofs.Values.{maybe-none, maybe-place, maybe-some, maybe-wrote}
use Rattle.jsonevents.proofs.values.put_maybe.Goals as goal

pub returns-then-at-eq0 : goal.returns-then-at-eq0
returns-then-at-eq0 c = search (maybe-none, rules)

pub write_value-requires : goal.write_value-requires
write_value-requires c = search (maybe-place, rules)

pub overflow_sub-result : goal.overflow_sub-result
overflow_sub-result c = search (maybe-some, rules)

pub returns : goal.returns
returns c = search (maybe-wrote, rules)
