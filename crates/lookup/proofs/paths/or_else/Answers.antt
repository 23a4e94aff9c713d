use Rattle.std.proofs.Common.{rules}
use Rattle.lookup.proofs.Attributes.{else_unbound, else_none, first-bound}
use Rattle.lookup.proofs.paths.or_else.Goals as goal

pub returns-then-a-eq0 : goal.returns-then-a-eq0
returns-then-a-eq0 c = else_unbound _ _ _ _ c.if-a-eq0.true

pub returns-then-a-gt3 : goal.returns-then-a-gt3
returns-then-a-gt3 c = else_none _ _ _ _ c.if-a-gt3.true

pub returns : goal.returns
returns c = search (first-bound, rules)
