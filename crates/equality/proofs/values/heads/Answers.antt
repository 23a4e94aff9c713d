use Rattle.std.proofs.Common.{rules}
use Rattle.laws.specs.Checked.{checked-bodies}
use Rattle.equality.proofs.Alike.{head-same, head-unlike, head-told, head-counts, head-runs}
use Rattle.equality.proofs.values.heads.Goals as goal

pub returns-then-eq : goal.returns-then-eq
returns-then-eq c = search (head-same, rules)

pub value_word-k-requires : goal.value_word-k-requires
value_word-k-requires c = search (checked-bodies, rules)

pub value_word-requires : goal.value_word-requires
value_word-requires c = search (checked-bodies, rules)

pub returns-then-k-value_word : goal.returns-then-k-value_word
returns-then-k-value_word c = search (head-unlike, rules)

pub returns-then-k-lt6 : goal.returns-then-k-lt6
returns-then-k-lt6 c = search (head-told, rules)

pub value_word-n-requires : goal.value_word-n-requires
value_word-n-requires c = search (checked-bodies, rules)

pub value_word-requires-2 : goal.value_word-requires-2
value_word-requires-2 c = search (checked-bodies, rules)

pub returns-then-n-value_word : goal.returns-then-n-value_word
returns-then-n-value_word c = search (head-counts, rules)

pub value_word-p-requires : goal.value_word-p-requires
value_word-p-requires c = search (checked-bodies, rules)

pub value_word-q-requires : goal.value_word-q-requires
value_word-q-requires c = search (checked-bodies, rules)

pub returns : goal.returns
returns c = search (head-runs, rules)
