use Rattle.std.proofs.Common.{rules}
use Rattle.laws.specs.Checked.{checked-bodies}
use Rattle.lookup.proofs.Attributes.{root_bare, root_plain, root_entity}
use Rattle.lookup.proofs.paths.from_value.Goals as goal

pub returns-then-path-eq0 : goal.returns-then-path-eq0
returns-then-path-eq0 c = search (root_bare, rules)

pub value_word-requires : goal.value_word-requires
value_word-requires c = search (checked-bodies, rules)

pub returns-then-value_word-ne5 : goal.returns-then-value_word-ne5
returns-then-value_word-ne5 c = search (root_plain, rules)

pub value_word-t-requires : goal.value_word-t-requires
value_word-t-requires c = search (checked-bodies, rules)

pub value_word-i-requires : goal.value_word-i-requires
value_word-i-requires c = search (checked-bodies, rules)

pub returns : goal.returns
returns c = search (root_entity, rules)
