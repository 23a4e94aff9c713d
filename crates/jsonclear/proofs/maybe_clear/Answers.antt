use Rattle.std.proofs.Common.{rules}
use Rattle.jsonclear.specs.Laws.Points.{maybe-none, maybe-some}
use Rattle.jsonclear.proofs.maybe_clear.Goals as goal

pub returns-then-v-eq4294967295 : goal.returns-then-v-eq4294967295
returns-then-v-eq4294967295 c = search (maybe-none, rules)

pub returns-else-v-eq4294967295 : goal.returns-else-v-eq4294967295
returns-else-v-eq4294967295 c = search (maybe-some, rules)
