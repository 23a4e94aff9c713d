use Rattle.std.proofs.Common.{rules}
use Rattle.laws.specs.Checked.{checked-bodies}
use Rattle.lookup.proofs.Searching.{no_span, span}
use Rattle.lookup.proofs.paths.members_of.Goals as goal

pub value_word-requires : goal.value_word-requires
value_word-requires c = search (checked-bodies, rules)

pub returns-then-value_word-ne7 : goal.returns-then-value_word-ne7
returns-then-value_word-ne7 c = search (no_span, rules)

pub value_word-requires-2 : goal.value_word-requires-2
value_word-requires-2 c = search (checked-bodies, rules)

pub value_word-requires-3 : goal.value_word-requires-3
value_word-requires-3 c = search (checked-bodies, rules)

pub returns : goal.returns
returns c = search (span, rules)
