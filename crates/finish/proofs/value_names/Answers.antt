use Rattle.std.proofs.Common.{rules}
use Rattle.finish.proofs.Names.{value-first, value-second, value-other}
use Rattle.finish.proofs.value_names.Goals as goal

pub returns-in-1 : goal.returns-in-1
returns-in-1 c = search (value-first, rules)

pub returns-in-2 : goal.returns-in-2
returns-in-2 c = search (value-second, rules)

pub returns-in_default : goal.returns-in_default
returns-in_default c = search (value-other, rules)
