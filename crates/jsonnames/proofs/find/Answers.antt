use Rattle.std.proofs.Common.{rules}
use Rattle.jsonnames.proofs.Halves.{half-start, half-none, half-cell, half_place, half-same, half-less, half-more}
use Rattle.jsonnames.proofs.find.Goals as goal

pub loop-low-init : goal.loop-low-init
loop-low-init c = search (half-start, rules)

pub bounds-names-middle : goal.bounds-names-middle
bounds-names-middle c = search (half-cell, rules)

pub compare-requires : goal.compare-requires
compare-requires c = search (half_place, rules)

pub returns-in-Equal : goal.returns-in-Equal
returns-in-Equal c = search (half-same, rules)

pub loop-low-preserved-in-Less : goal.loop-low-preserved-in-Less
loop-low-preserved-in-Less c = search (half-less, rules)

pub loop-low-preserved : goal.loop-low-preserved
loop-low-preserved c = search (half-more, rules)

pub returns : goal.returns
returns c = search (half-none, rules)
