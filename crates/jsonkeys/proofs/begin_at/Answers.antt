use Rattle.std.proofs.Common.{rules}
use Rattle.jsonkeys.proofs.Turns.{begin_cut, begin_over, begin_on}
use Rattle.jsonkeys.proofs.begin_at.Goals as goal

pub returns-then-line-k : goal.returns-then-line-k
returns-then-line-k c = search (begin_cut, rules)

pub returns-then-line-k-2 : goal.returns-then-line-k-2
returns-then-line-k-2 c = search (begin_over, rules)

pub returns : goal.returns
returns c = search (begin_on, rules)
