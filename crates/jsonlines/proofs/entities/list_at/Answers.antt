use Rattle.std.proofs.Common.{rules}
use Rattle.jsonlines.proofs.Triples.{list-end, list-not, list-there}
use Rattle.jsonlines.proofs.entities.list_at.Goals as goal

pub returns-then-line-at : goal.returns-then-line-at
returns-then-line-at c = rw c.new.ensures (search (list-end, rules))

pub returns-then-c-ne91 : goal.returns-then-c-ne91
returns-then-c-ne91 c = rw c.new-then-c-ne91.ensures (search (list-not, rules))

pub returns : goal.returns
returns c = search (list-there, rules)
