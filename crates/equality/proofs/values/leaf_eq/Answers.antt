use Rattle.std.proofs.Common.{rules}
use Rattle.laws.specs.Checked.{checked-bodies}
use Rattle.equality.proofs.Alike.{leaf_null, leaf-int, leaf-decimal, entity-first, entity-other, leaf-other}
use Rattle.equality.proofs.values.leaf_eq.Goals as goal

pub value_word-x-requires : goal.value_word-x-requires
value_word-x-requires c = search (checked-bodies, rules)

pub value_word-y-requires : goal.value_word-y-requires
value_word-y-requires c = search (checked-bodies, rules)

pub value_word-requires : goal.value_word-requires
value_word-requires c = search (checked-bodies, rules)

pub value_word-requires-in-2 : goal.value_word-requires-in-2
value_word-requires-in-2 c = search (checked-bodies, rules)

pub value_word-requires-then-x-y : goal.value_word-requires-then-x-y
value_word-requires-then-x-y c = search (checked-bodies, rules)

pub value_word-requires-then-x-y-2 : goal.value_word-requires-then-x-y-2
value_word-requires-then-x-y-2 c = search (checked-bodies, rules)

pub returns-in-0 : goal.returns-in-0
returns-in-0 c = search (leaf_null, rules)

pub returns-in-2 : goal.returns-in-2
returns-in-2 c = search (leaf-int, rules)

pub returns-in-3 : goal.returns-in-3
returns-in-3 c = search (leaf-decimal, rules)

pub returns-then-x-y : goal.returns-then-x-y
returns-then-x-y c = search (entity-first, rules)

pub returns-else-x-y : goal.returns-else-x-y
returns-else-x-y c = search (entity-other, rules)

pub returns-in_default : goal.returns-in_default
returns-in_default c = search (leaf-other, rules)
