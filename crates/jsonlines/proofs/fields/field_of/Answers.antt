use Rattle.std.proofs.Common.{rules}
use Rattle.jsonlines.proofs.Naming.{field-empty, field-time, field-namespace, field-action, field-kind, field-logged, field-context, field-principal, field-resource, field-entities, field-none}
use Rattle.jsonlines.proofs.fields.field_of.Goals as goal

pub returns-in_default : goal.returns-in_default
returns-in_default c = search (field-empty, rules)

pub returns-in-116 : goal.returns-in-116
returns-in-116 c = search (field-time, rules)

pub returns-in-110 : goal.returns-in-110
returns-in-110 c = search (field-namespace, rules)

pub returns-in-97 : goal.returns-in-97
returns-in-97 c = search (field-action, rules)

pub returns-in-107 : goal.returns-in-107
returns-in-107 c = search (field-kind, rules)

pub returns-in-108 : goal.returns-in-108
returns-in-108 c = search (field-logged, rules)

pub returns-in-99 : goal.returns-in-99
returns-in-99 c = search (field-context, rules)

pub returns-in-112 : goal.returns-in-112
returns-in-112 c = search (field-principal, rules)

pub returns-in-114 : goal.returns-in-114
returns-in-114 c = search (field-resource, rules)

pub returns-in-101 : goal.returns-in-101
returns-in-101 c = search (field-entities, rules)

pub returns-in_default-b : goal.returns-in_default-b
returns-in_default-b c = search (field-none, rules)
