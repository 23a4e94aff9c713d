use Rattle.std.proofs.Common.{rules}
use Rattle.jsonlines.proofs.Naming.{at-time, at-namespace, at-action, at-kind, at-logged, at-context, at-principal, at-resource, at-entities}
use Rattle.jsonlines.proofs.fields.field_at.Goals as goal

pub returns-in-0 : goal.returns-in-0
returns-in-0 c = search (at-time, rules)

pub returns-in-1 : goal.returns-in-1
returns-in-1 c = search (at-namespace, rules)

pub returns-in-2 : goal.returns-in-2
returns-in-2 c = search (at-action, rules)

pub returns-in-3 : goal.returns-in-3
returns-in-3 c = search (at-kind, rules)

pub returns-in-4 : goal.returns-in-4
returns-in-4 c = search (at-logged, rules)

pub returns-in-5 : goal.returns-in-5
returns-in-5 c = search (at-context, rules)

pub returns-in-6 : goal.returns-in-6
returns-in-6 c = search (at-principal, rules)

pub returns-in-7 : goal.returns-in-7
returns-in-7 c = search (at-resource, rules)

pub returns-in_default : goal.returns-in_default
returns-in_default c = search (at-entities, rules)
