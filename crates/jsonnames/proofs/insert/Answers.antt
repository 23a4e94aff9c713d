use Rattle.std.proofs.Common.{rules}
use Rattle.jsonnames.proofs.Moves.{move_start, move-cell, move-lower, move-done, move-on}
use Rattle.jsonnames.proofs.insert.Goals as goal

pub loop-i-init : goal.loop-i-init
loop-i-init c = search (move_start, rules)

pub bounds-names-k : goal.bounds-names-k
bounds-names-k c = search (move-lower, rules)

pub bounds-names-i : goal.bounds-names-i
bounds-names-i c = search (move-cell, rules)

pub loop-i-preserved : goal.loop-i-preserved
loop-i-preserved c = search (move-on, rules)

pub bounds-names-cell : goal.bounds-names-cell
bounds-names-cell c = search (move-cell, rules)

pub returns : goal.returns
returns c = search (move-done, rules)
