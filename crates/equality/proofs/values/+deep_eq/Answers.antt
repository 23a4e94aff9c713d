use Rattle.std.proofs.Common.{rules}
use Rattle.laws.specs.Checked.{checked-bodies}
use Rattle.equality.proofs.Alike.{go-end, go-falls}
use Rattle.equality.proofs.Joining.{deep_in, deep-said, deep-met, deep-start, deep-name, deep-no, deep_more, deep-end}
use Rattle.equality.proofs.values.+deep_eq.Goals as goal

pub returns-in-Break : goal.returns-in-Break
returns-in-Break t c = search (deep-said, rules)

pub met-requires : goal.met-requires
met-requires t c = search (deep_in, rules)

pub returns-then-met : goal.returns-then-met
returns-then-met t c = search (deep-met, rules)

pub loop-i-init : goal.loop-i-init
loop-i-init t c = search (deep-start, rules)

pub pair-requires : goal.pair-requires
pair-requires t c = search (checked-bodies, rules)

pub returns-in_default : goal.returns-in_default
returns-in_default t c = search (deep-name, rules)

pub deep_eq-requires : goal.deep_eq-requires
deep_eq-requires t c = search (go-falls, rules)

pub returns-then-not-deep_eq : goal.returns-then-not-deep_eq
returns-then-not-deep_eq t c = search (deep-no, rules)

pub loop-i-preserved : goal.loop-i-preserved
loop-i-preserved t c = search (deep_more, rules)

pub join-requires-clause-inside : goal.join-requires-clause-inside
join-requires-clause-inside t c = search (deep_in, rules)

pub join-requires-clause-true_value : goal.join-requires-clause-true_value
join-requires-clause-true_value t c = search (go-end, rules)

pub returns : goal.returns
returns t c = search (deep-end, rules)
