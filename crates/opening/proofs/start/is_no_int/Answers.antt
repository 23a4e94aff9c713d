use Rattle.std.proofs.Common.{rules}
use Rattle.laws.specs.Checked.{checked-bodies}
use Rattle.opening.proofs.Starts.{int_is, no-int}
use Rattle.opening.proofs.start.is_no_int.Goals as goal

pub value_at-requires : goal.value_at-requires
value_at-requires c = search (checked-bodies, rules)

pub returns-in-Int : goal.returns-in-Int
returns-in-Int c = search (int_is, rules)

pub returns-in_default : goal.returns-in_default
returns-in_default c = search (no-int, rules)
