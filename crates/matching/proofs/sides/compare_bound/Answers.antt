use Rattle.std.proofs.Common.{rules}
use Rattle.matching.proofs.Comparing.{compared_eq, compared-not, compared-ordering}
use Rattle.matching.proofs.sides.compare_bound.Goals as goal

pub returns-in-Eq : goal.returns-in-Eq
returns-in-Eq c = search (compared_eq, rules)

pub returns-in-NotEq : goal.returns-in-NotEq
returns-in-NotEq c = search (compared-not, rules)

pub returns-in_default : goal.returns-in_default
returns-in_default c = search (compared-ordering, rules)
