use Rattle.std.proofs.Common.{rules}
use Rattle.jsonentities.proofs.Comparing.{half-start, half-cell, half-good, half_place, half-less, half-more, half-none}
use Rattle.jsonentities.proofs.sorting.cell_of.Goals as goal

pub loop-low-init : goal.loop-low-init
loop-low-init c = search (half-start, rules)

pub bounds-names-middle : goal.bounds-names-middle
bounds-names-middle c = search (half-cell, rules)

pub is_before-requires : goal.is_before-requires
is_before-requires c = record { good = search (half-good, rules); good_2 = search (half_place, rules) }

pub loop-low-preserved-then-is_before : goal.loop-low-preserved-then-is_before
loop-low-preserved-then-is_before c = search (half-less, rules)

pub loop-low-preserved : goal.loop-low-preserved
loop-low-preserved c = search (half-more, rules)

pub returns : goal.returns
returns c = search (half-none, rules)
