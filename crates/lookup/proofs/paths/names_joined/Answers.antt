use Rattle.std.proofs.Common.{rules}
use Rattle.lookup.proofs.Dotted.{joins-inside, joins-start, joins-end, joins-on, joined-so-many, joined-none}
use Rattle.laws.specs.Checked.{checked-bodies, checked-strings}
use Rattle.lookup.proofs.paths.names_joined.Goals as goal

pub loop-k-init : goal.loop-k-init
loop-k-init c = search (joins-start, rules)

pub list_at-requires : goal.list_at-requires
list_at-requires c = search (checked-bodies, rules)

pub text_of-requires : goal.text_of-requires
text_of-requires c = search (checked-bodies, checked-strings, rules)

pub text_of-requires-in-loop-k : goal.text_of-requires-in-loop-k
text_of-requires-in-loop-k c = search (checked-bodies, checked-strings, rules)

pub behind_name-requires : goal.behind_name-requires
behind_name-requires c = search (joins-inside, rules)

pub returns-in-End-clause-value : goal.returns-in-End-clause-value
returns-in-End-clause-value c = search (joined-so-many, rules)

pub loop-k-preserved : goal.loop-k-preserved
loop-k-preserved c = search (joins-on, rules)

pub returns-in-Other-clause-value : goal.returns-in-Other-clause-value
returns-in-Other-clause-value c = search (joined-none, rules)

pub returns-clause-value : goal.returns-clause-value
returns-clause-value c = search (joins-end, rules)
