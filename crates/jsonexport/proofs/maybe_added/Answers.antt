use Rattle.std.proofs.Common.{rules}
use Rattle.jsonexport.specs.Laws.{maybe-few, maybe-none, maybe-some}
use Rattle.jsonexport.proofs.maybe_added.Goals as goal

pub returns-then-n-eq4294967295 : goal.returns-then-n-eq4294967295
returns-then-n-eq4294967295 c = search (maybe-none, rules)

pub added-requires : goal.added-requires
added-requires c = search (maybe-few, rules)

pub returns-else-n-eq4294967295 : goal.returns-else-n-eq4294967295
returns-else-n-eq4294967295 c = search (maybe-some, rules)
