use Rattle.joining.proofs.Guessing.{puts_more, puts_not}
use Rattle.std.proofs.Common.{rules}
use Rattle.joining.proofs.put_next.Goals as goal

pub returns-then-kept-m : goal.returns-then-kept-m
returns-then-kept-m c = search (puts_not, rules)

pub returns : goal.returns
returns c = search (puts_more, rules)
