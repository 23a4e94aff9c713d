use Rattle.std.proofs.Common.{rules}
use Rattle.jsonnames.proofs.Looks.{last-even, last-read, last-later, last-past, last-run, last-there, last-lacks}
use Rattle.jsonnames.proofs.runs.look_last.Goals as goal

pub returns-then-count-eq0 : goal.returns-then-count-eq0
returns-then-count-eq0 c = search (last-even, rules)

pub bounds-names-high : goal.bounds-names-high
bounds-names-high c = search (last-read, rules)

pub comes_last-requires : goal.comes_last-requires
comes_last-requires c = search (last-later, rules)

pub returns-then-comes_last : goal.returns-then-comes_last
returns-then-comes_last c = search (last-past, rules)

pub find-requires : goal.find-requires
find-requires c = search (last-run, rules)

pub returns-in-Ok : goal.returns-in-Ok
returns-in-Ok c = search (last-there, rules)

pub returns-in-Err : goal.returns-in-Err
returns-in-Err c = search (last-lacks, rules)
