use Rattle.std.proofs.Common.{rules}
use Rattle.jsonlines.proofs.Triples.{entity-end, entity-not, entity-there}
use Rattle.jsonlines.proofs.entities.entity_at.Goals as goal

pub returns-then-line-at : goal.returns-then-line-at
returns-then-line-at c = rw c.new.ensures (search (entity-end, rules))

pub returns-then-c-ne91 : goal.returns-then-c-ne91
returns-then-c-ne91 c = rw c.new-then-c-ne91.ensures (search (entity-not, rules))

pub returns : goal.returns
returns c = search (entity-there, rules)
