use Rattle.std.proofs.Common.{rules}
use Rattle.jsonlines.proofs.Triples.{none-cut, none-missing, none-there}
use Rattle.jsonlines.proofs.entities.unless_none.Goals as goal

pub returns-then-line-i : goal.returns-then-line-i
returns-then-line-i c = rw c.new.ensures (search (none-cut, rules))

pub returns-then-line-i-eq93 : goal.returns-then-line-i-eq93
returns-then-line-i-eq93 c = rw c.new-then-line-i-eq93.ensures (search (none-missing, rules))

pub returns : goal.returns
returns c = search (none-there, rules)
