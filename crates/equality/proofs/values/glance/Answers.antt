use Rattle.std.proofs.Common.{rules}
use Rattle.laws.specs.Checked.{checked-bodies}
use Rattle.equality.proofs.Alike.{glance_open, glance_number, glance_unlike, glance_same, glance_int, glance_text}
use Rattle.equality.proofs.values.glance.Goals as goal

pub returns-then-eq : goal.returns-then-eq
returns-then-eq c = search (glance_number, rules)

pub value_word-k-requires : goal.value_word-k-requires
value_word-k-requires c = search (checked-bodies, rules)

pub value_word-requires : goal.value_word-requires
value_word-requires c = search (checked-bodies, rules)

pub returns-then-k-value_word : goal.returns-then-k-value_word
returns-then-k-value_word c = search (glance_unlike, rules)

pub value_word-p-requires : goal.value_word-p-requires
value_word-p-requires c = search (checked-bodies, rules)

pub value_word-q-requires : goal.value_word-q-requires
value_word-q-requires c = search (checked-bodies, rules)

pub value_word-requires-2 : goal.value_word-requires-2
value_word-requires-2 c = search (checked-bodies, rules)

pub value_word-requires-3 : goal.value_word-requires-3
value_word-requires-3 c = search (checked-bodies, rules)

pub returns-then-p-q : goal.returns-then-p-q
returns-then-p-q c = search (glance_same, rules)

pub returns-then-value_word : goal.returns-then-value_word
returns-then-value_word c = search (glance_open, rules)

pub returns-then-k-eq2 : goal.returns-then-k-eq2
returns-then-k-eq2 c = search (glance_int, rules)

pub returns-then-k-eq4 : goal.returns-then-k-eq4
returns-then-k-eq4 c = search (glance_text, rules)

pub returns : goal.returns
returns c = search (glance_open, rules)
