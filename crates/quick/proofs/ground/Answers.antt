use Rattle.std.proofs.Common.{rules}
use Rattle.quick.proofs.Arguments.{ground_any, ground_known, ground_open}
use Rattle.quick.proofs.ground.Goals as goal

pub returns-then-is_bound : goal.returns-then-is_bound
returns-then-is_bound c = ground_known _ _ (search rules) c.fixed_of-b.ensures c.is_bound.ensures c.if-is_bound.true

pub returns-in-Wildcard : goal.returns-in-Wildcard
returns-in-Wildcard c = search (ground_any, rules)

pub returns-in-Variable : goal.returns-in-Variable
returns-in-Variable c = search (ground_open, rules)

pub returns-else-is_bound : goal.returns-else-is_bound
returns-else-is_bound c = search (ground_open, rules)
