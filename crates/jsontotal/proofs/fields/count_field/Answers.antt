use Rattle.std.proofs.Common.{rules}
use Rattle.jsontotal.proofs.Valued.{time-due, namespace-due, action-due, kind-due, logged-due, context-due, principal-due, resource-due, entities-due, time-counted, namespace-counted, action-counted, kind-counted, logged-counted, context-counted, principal-counted, resource-counted, entities-counted}
use Rattle.jsontotal.proofs.fields.count_field.Goals as goal

pub time_end-requires : goal.time_end-requires
time_end-requires c = search (time-due, rules)

pub count_texts-requires : goal.count_texts-requires
count_texts-requires c = search (namespace-due, rules)

pub add_string-requires : goal.add_string-requires
add_string-requires c = search (action-due, rules)

pub add_string-requires-in-3 : goal.add_string-requires-in-3
add_string-requires-in-3 c = search (kind-due, rules)

pub count_fields-requires : goal.count_fields-requires
count_fields-requires c = search (logged-due, rules)

pub count_fields-requires-in-5 : goal.count_fields-requires-in-5
count_fields-requires-in-5 c = search (context-due, rules)

pub count_value-requires : goal.count_value-requires
count_value-requires c = search (principal-due, rules)

pub count_value-requires-in-7 : goal.count_value-requires-in-7
count_value-requires-in-7 c = search (resource-due, rules)

pub count_entities-requires : goal.count_entities-requires
count_entities-requires c = search (entities-due, rules)

pub returns-in-0 : goal.returns-in-0
returns-in-0 c = search (time-counted, rules)

pub returns-in-1 : goal.returns-in-1
returns-in-1 c = search (namespace-counted, rules)

pub returns-in-2 : goal.returns-in-2
returns-in-2 c = search (action-counted, rules)

pub returns-in-3 : goal.returns-in-3
returns-in-3 c = search (kind-counted, rules)

pub returns-in-4 : goal.returns-in-4
returns-in-4 c = search (logged-counted, rules)

pub returns-in-5 : goal.returns-in-5
returns-in-5 c = search (context-counted, rules)

pub returns-in-6 : goal.returns-in-6
returns-in-6 c = search (principal-counted, rules)

pub returns-in-7 : goal.returns-in-7
returns-in-7 c = search (resource-counted, rules)

pub returns-in_default : goal.returns-in_default
returns-in_default c = search (entities-counted, rules)
