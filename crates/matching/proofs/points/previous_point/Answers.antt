use Rattle.std.proofs.Common.{rules}
use Rattle.matching.proofs.Before.{none_before, one-before, none-inside}
use Rattle.matching.proofs.points.previous_point.Goals as goal

pub returns-in_err-j : goal.returns-in_err-j
returns-in_err-j c = search (none_before, rules)

pub returns-in-Inside : goal.returns-in-Inside
returns-in-Inside c = search (one-before, rules)

pub returns-in-TooOld : goal.returns-in-TooOld
returns-in-TooOld c = search (none-inside, rules)
