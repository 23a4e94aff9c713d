use Rattle.std.proofs.Common.{rules}
use Rattle.telling.proofs.Cells.{second, third, four}
use Rattle.telling.proofs.fill.Goals as goal

pub bounds-lent-1 : goal.bounds-lent-1
bounds-lent-1 c = search (second, rules)

pub bounds-lent-2 : goal.bounds-lent-2
bounds-lent-2 c = search (third, rules)

pub returns : goal.returns
returns c = search (four, rules)
