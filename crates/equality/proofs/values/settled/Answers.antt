use Rattle.std.proofs.Common.{rules}
use Rattle.laws.specs.Checked.{checked-bodies}
use Rattle.equality.proofs.Cells.{settled-int, settled-text, settled-value, settled-none, settled_plain}
use Rattle.equality.proofs.values.settled.Goals as goal

pub value_word-x-requires : goal.value_word-x-requires
value_word-x-requires c = search (checked-bodies, rules)

pub value_word-requires : goal.value_word-requires
value_word-requires c = search (checked-bodies, rules)

pub value_word-requires-in-2 : goal.value_word-requires-in-2
value_word-requires-in-2 c = search (checked-bodies, rules)

pub returns-in-2 : goal.returns-in-2
returns-in-2 c = search (settled-int, rules)

pub returns-in-4 : goal.returns-in-4
returns-in-4 c = search (settled-text, rules)

pub returns-in_default : goal.returns-in_default
returns-in_default c = search (settled-value, rules)

pub returns-then-b-gt3 : goal.returns-then-b-gt3
returns-then-b-gt3 c = search (settled-none, rules)

pub returns : goal.returns
returns c = search (settled_plain, rules)
