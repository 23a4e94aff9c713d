use Rattle.std.proofs.Common.{rules}
use Rattle.laws.specs.Bodies.{long}
use Rattle.laws.specs.Checked.{checked-bodies}
use Rattle.lookup.proofs.Members.{no-object, among-all, among_none, lower-half, upper-half, middle-found}
use Rattle.lookup.proofs.paths.member_named.Goals as goal

pub value_word-requires : goal.value_word-requires
value_word-requires c = search (checked-bodies, rules)

pub returns-then-value_word-ne7 : goal.returns-then-value_word-ne7
returns-then-value_word-ne7 c = search (no-object, rules)

pub offset_of-requires : goal.offset_of-requires
offset_of-requires c = search (long, checked-bodies, rules)

pub value_word-requires-2 : goal.value_word-requires-2
value_word-requires-2 c = search (checked-bodies, rules)

pub value_word-requires-3 : goal.value_word-requires-3
value_word-requires-3 c = search (checked-bodies, rules)

pub loop-left-init : goal.loop-left-init
loop-left-init c = search (among-all, rules)

pub returns-then-name-here : goal.returns-then-name-here
returns-then-name-here c = search (middle-found, rules)

pub loop-left-preserved-then-name-here-2 : goal.loop-left-preserved-then-name-here-2
loop-left-preserved-then-name-here-2 c = search (lower-half, rules)

pub loop-left-preserved : goal.loop-left-preserved
loop-left-preserved c = search (upper-half, rules)

pub returns : goal.returns
returns c = search (among_none, rules)
