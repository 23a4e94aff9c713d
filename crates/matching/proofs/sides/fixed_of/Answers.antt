use Rattle.std.proofs.Common.{rules}
use Rattle.matching.proofs.Leaves.{path_of_context, path_of_scope, fixed-literal, fixed-context, fixed_scope, fixed-other}
use Rattle.matching.proofs.sides.fixed_of.Goals as goal

pub context_at-requires : goal.context_at-requires
context_at-requires c = search (path_of_context, rules)

pub scope_at-requires : goal.scope_at-requires
scope_at-requires c = search (path_of_scope, rules)

pub returns-in-Literal : goal.returns-in-Literal
returns-in-Literal c = search (fixed-literal, rules)

pub returns-in-Context : goal.returns-in-Context
returns-in-Context c = search (fixed-context, rules)

pub returns-in-Scope : goal.returns-in-Scope
returns-in-Scope c = search (fixed_scope, rules)

pub returns-in_default : goal.returns-in_default
returns-in_default c = search (fixed-other, rules)
