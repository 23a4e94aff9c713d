use Rattle.std.proofs.Common.{rules}
use Rattle.lookup.proofs.Searching.{last-string, string-behind}
use Rattle.laws.specs.Checked.{checked-bodies, checked-strings}
use Rattle.laws.specs.Bodies.{long}
use Rattle.lookup.proofs.paths.may_join.Goals as goal

pub size_of-count-requires : goal.size_of-count-requires
size_of-count-requires c = search (long, checked-bodies, rules)

pub text_of-requires : goal.text_of-requires
text_of-requires c = search (checked-bodies, checked-strings, rules)

pub text_of-requires-then-count-next : goal.text_of-requires-then-count-next
text_of-requires-then-count-next c = search (checked-bodies, checked-strings, rules)

pub returns-then-count-next : goal.returns-then-count-next
returns-then-count-next c = search (string-behind, rules)

pub returns-else-count-next : goal.returns-else-count-next
returns-else-count-next c = search (last-string, rules)
