use Rattle.std.proofs.Common.{rules}
use Rattle.laws.specs.Checked.{checked-bodies}
use Rattle.jsonput.proofs.words_of.Goals as goal

pub value_word-requires : goal.value_word-requires
value_word-requires c = search (checked-bodies, rules)

pub value_word-requires-2 : goal.value_word-requires-2
value_word-requires-2 c = search (checked-bodies, rules)

pub value_word-requires-3 : goal.value_word-requires-3
value_word-requires-3 c = search (checked-bodies, rules)
