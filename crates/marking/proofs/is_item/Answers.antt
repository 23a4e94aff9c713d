use Rattle.std.proofs.Common.{rules}
use Rattle.marking.proofs.Rules.{entity-as, argument-stops, argument-as}
use Rattle.marking.proofs.is_item.Goals as goal

pub returns-then-not-argument : goal.returns-then-not-argument
returns-then-not-argument c = search (entity-as, rules)

pub returns-else-own : goal.returns-else-own
returns-else-own c = search (argument-stops, rules)

pub returns-then-own : goal.returns-then-own
returns-then-own c = search (argument-as, rules)
