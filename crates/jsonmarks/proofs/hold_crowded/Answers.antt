use Rattle.std.proofs.Common.{rules}
use Rattle.jsonmarks.proofs.Keeps.{crowd_there, crowd_long, crowd_last, crowd_full}
use Rattle.jsonmarks.proofs.hold_crowded.Goals as goal

pub overflow_sub-last : goal.overflow_sub-last
overflow_sub-last c = search (crowd_long, rules)

pub bounds-names-last : goal.bounds-names-last
bounds-names-last c = search (crowd_long, rules)

pub returns-in-Some : goal.returns-in-Some
returns-in-Some c = search (crowd_there, rules)

pub returns-then-end-last : goal.returns-then-end-last
returns-then-end-last c = search (crowd_last, rules)

pub returns-else-end-last : goal.returns-else-end-last
returns-else-end-last c = search (crowd_full, rules)
