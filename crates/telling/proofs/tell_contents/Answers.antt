use Rattle.std.proofs.Common.{rules}
use Rattle.telling.proofs.Cells.{second, third, fourth, of_five, five}
use Rattle.telling.proofs.tell_contents.Goals as goal

pub bounds-lent-1 : goal.bounds-lent-1
bounds-lent-1 c = search (second, of_five, rules)

pub bounds-lent-2 : goal.bounds-lent-2
bounds-lent-2 c = search (third, of_five, rules)

pub bounds-lent-3 : goal.bounds-lent-3
bounds-lent-3 c = search (fourth, of_five, rules)

pub returns : goal.returns
returns c = search (five, rules)
