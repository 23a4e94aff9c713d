use Rattle.std.proofs.Common.{rules}
use Rattle.jsonpieces.proofs.Fronts.{front-names, front-values, front-wrote, last_fit, last-entities, last-wrote, body-front, body-last, body-wrote}
use Rattle.jsonpieces.proofs.Points.{line-good, line-time, line-body, line-room, line_wrote}
use Rattle.jsonevents.proofs.events.put_line.Goals as goal

pub fields_of-f-requires : goal.fields_of-f-requires
fields_of-f-requires c = search (line-good, rules)

pub integer_of-time-requires : goal.integer_of-time-requires
integer_of-time-requires c = search (line-time, rules)

pub put_names-requires : goal.put_names-requires
put_names-requires c = front-names (body-front (line-body c.requires c.fields_of-f.ensures))

pub put_values-values-requires : goal.put_values-values-requires
put_values-values-requires c = front-values (body-front (line-body c.requires c.fields_of-f.ensures)) c.put_names.ensures (search rules)

pub overflow_add-f : goal.overflow_add-f
overflow_add-f c = last_fit (body-last (line-body c.requires c.fields_of-f.ensures) (front-wrote c.put_names.ensures c.put_values-values.ensures) (search rules)) (search rules)

pub put_entities-count-requires : goal.put_entities-count-requires
put_entities-count-requires c = last-entities (body-last (line-body c.requires c.fields_of-f.ensures) (front-wrote c.put_names.ensures c.put_values-values.ensures) (search rules))

pub put_point-requires : goal.put_point-requires
put_point-requires c = line-room c.requires c.fields_of-f.ensures (body-wrote (front-wrote c.put_names.ensures c.put_values-values.ensures) (last-wrote (body-last (line-body c.requires c.fields_of-f.ensures) (front-wrote c.put_names.ensures c.put_values-values.ensures) (search rules)) c.put_entities-count.ensures)) (search rules)

pub returns : goal.returns
returns c = line_wrote c.fields_of-f.ensures c.integer_of-time.ensures (body-wrote (front-wrote c.put_names.ensures c.put_values-values.ensures) (last-wrote (body-last (line-body c.requires c.fields_of-f.ensures) (front-wrote c.put_names.ensures c.put_values-values.ensures) (search rules)) c.put_entities-count.ensures)) c.put_point.ensures
