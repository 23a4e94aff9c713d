use Rattle.std.proofs.Common.{rules}
use Rattle.carried.proofs.Looking.{look-formerly, look-previous, look-since, look-other}
use Rattle.carried.proofs.looks.look_of.Goals as goal

pub returns-in-Formerly : goal.returns-in-Formerly
returns-in-Formerly c = search (look-formerly, rules)

pub returns-in-Previous : goal.returns-in-Previous
returns-in-Previous c = search (look-previous, rules)

pub returns-in-Since : goal.returns-in-Since
returns-in-Since c = search (look-since, rules)

pub returns-in_default : goal.returns-in_default
returns-in_default c = search (look-other, rules)
