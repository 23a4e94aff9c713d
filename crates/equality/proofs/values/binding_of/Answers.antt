use Rattle.std.proofs.Common.{rules}
use Rattle.laws.specs.Checked.{checked-bodies}
use Rattle.equality.proofs.Cells.{bound-int, bound-other}
use Rattle.equality.proofs.values.binding_of.Goals as goal

pub value_word-requires : goal.value_word-requires
value_word-requires c = search (checked-bodies, rules)

pub value_word-requires-then-value_word-eq2 : goal.value_word-requires-then-value_word-eq2
value_word-requires-then-value_word-eq2 c = search (checked-bodies, rules)

pub value_word-requires-then-value_word-eq2-2 : goal.value_word-requires-then-value_word-eq2-2
value_word-requires-then-value_word-eq2-2 c = search (checked-bodies, rules)

pub returns-then-value_word-eq2 : goal.returns-then-value_word-eq2
returns-then-value_word-eq2 c = search (bound-int, rules)

pub returns : goal.returns
returns c = search (bound-other, rules)
