use Rattle.std.proofs.Common.{rules}
use Rattle.laws.specs.Checked.{checked-bodies}
use Rattle.opening.proofs.Starts.{formed-unbound, formed-int, formed-value, formed-no-value, formed-part, formed-other}
use Rattle.opening.proofs.start.well_formed.Goals as goal

pub value_count-requires : goal.value_count-requires
value_count-requires c = search (checked-bodies, rules)

pub string_count-requires : goal.string_count-requires
string_count-requires c = search (checked-bodies, rules)

pub returns-in-0 : goal.returns-in-0
returns-in-0 c = search (formed-unbound, rules)

pub returns-in-1 : goal.returns-in-1
returns-in-1 c = search (formed-int, rules)

pub returns-then-bits-value_count : goal.returns-then-bits-value_count
returns-then-bits-value_count c = search (formed-value, rules)

pub returns-else-bits-value_count : goal.returns-else-bits-value_count
returns-else-bits-value_count c = search (formed-no-value, rules)

pub returns-in-3 : goal.returns-in-3
returns-in-3 c = search (formed-part, rules)

pub returns-in_default : goal.returns-in_default
returns-in_default c = search (formed-other, rules)
