use Rattle.std.proofs.Common.{rules}
use Rattle.carried.proofs.Looking.{points-formerly, points-previous, points-since}
use Rattle.carried.proofs.answers.how_many.Goals as goal

pub returns-in-Formerly : goal.returns-in-Formerly
returns-in-Formerly c = search (points-formerly, rules)

pub returns-in-Previous : goal.returns-in-Previous
returns-in-Previous c = search (points-previous, rules)

pub returns-in-Since : goal.returns-in-Since
returns-in-Since c = search (points-since, rules)
