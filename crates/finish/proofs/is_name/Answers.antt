use Rattle.std.proofs.Common.{rules}
use Rattle.finish.proofs.Names.{named_value, named-member, named-point, named-node, named-list, named-not}
use Rattle.finish.proofs.is_name.Goals as goal

pub returns-in-1 : goal.returns-in-1
returns-in-1 c = search (named_value, rules)

pub returns-in-2 : goal.returns-in-2
returns-in-2 c = search (named-member, rules)

pub returns-in-3 : goal.returns-in-3
returns-in-3 c = search (named-point, rules)

pub returns-in-4 : goal.returns-in-4
returns-in-4 c = search (named-node, rules)

pub returns-in-5 : goal.returns-in-5
returns-in-5 c = search (named-list, rules)

pub returns-in_default : goal.returns-in_default
returns-in_default c = search (named-not, rules)
