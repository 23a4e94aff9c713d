use Rattle.std.proofs.Common.{rules}
use Rattle.jsonexport.specs.Laws.{entering_none, entering_full, entering_there, entering_more, entering_all}
use Rattle.jsonexport.proofs.entities_size.Goals as goal

pub loop-i-init : goal.loop-i-init
loop-i-init c = search (entering_none, rules)

pub returns-then-limit-sum : goal.returns-then-limit-sum
returns-then-limit-sum c = search (entering_full, rules)

pub entity_size-sum-requires-clause-entity : goal.entity_size-sum-requires-clause-entity
entity_size-sum-requires-clause-entity c = search (entering_there, rules)

pub loop-i-preserved : goal.loop-i-preserved
loop-i-preserved c = search (entering_more, rules)

pub returns : goal.returns
returns c = search (entering_all, rules)
