use Rattle.std.proofs.Common.{rules}
use Rattle.jsonnames.proofs.Joins.{join-start, join-read, join-write, join-alone, join-due, join-lower-read, join-lower-write, join-lower, join-upper, join-done}
use Rattle.jsonnames.proofs.merges.join.Goals as goal

pub loop-j-init : goal.loop-j-init
loop-j-init c = search (join-start, rules)

pub overflow_add-at : goal.overflow_add-at
overflow_add-at c = search (join-read, rules)

pub bounds-names-high : goal.bounds-names-high
bounds-names-high c = search (join-read, rules)

pub overflow_add-names : goal.overflow_add-names
overflow_add-names c = search (join-write, rules)

pub bounds-names-i : goal.bounds-names-i
bounds-names-i c = search (join-write, rules)

pub loop-j-preserved-then-i-low : goal.loop-j-preserved-then-i-low
loop-j-preserved-then-i-low c = search (join-alone, rules)

pub bounds-names-k : goal.bounds-names-k
bounds-names-k c = search (join-lower-read, rules)

pub comes_last-requires : goal.comes_last-requires
comes_last-requires c = search (join-due, rules)

pub bounds-names-i-then-comes_last : goal.bounds-names-i-then-comes_last
bounds-names-i-then-comes_last c = search (join-write, rules)

pub loop-j-preserved-then-comes_last : goal.loop-j-preserved-then-comes_last
loop-j-preserved-then-comes_last c = search (join-upper, rules)

pub bounds-names-k-else-comes_last : goal.bounds-names-k-else-comes_last
bounds-names-k-else-comes_last c = search (join-lower-write, rules)

pub loop-j-preserved : goal.loop-j-preserved
loop-j-preserved c = search (join-lower, rules)

pub returns : goal.returns
returns c = search (join-done, rules)
