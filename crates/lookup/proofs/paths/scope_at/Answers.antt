use Rattle.std.proofs.Common.{rules}
use Rattle.laws.specs.Checked.{checked-bodies}
use Rattle.lookup.proofs.Attributes.{scope_none, scope_value}
use Rattle.lookup.proofs.paths.scope_at.Goals as goal

pub root_word-v-requires : goal.root_word-v-requires
root_word-v-requires c = search (checked-bodies, rules)

pub returns-then-v : goal.returns-then-v
returns-then-v c = search (scope_none, rules)

pub returns : goal.returns
returns c = search (scope_value, rules)
