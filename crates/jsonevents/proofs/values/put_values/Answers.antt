use Rattle.std.proofs.Common.{rules}
use Rattle.jsonpieces.proofs.Values.{records-first, records-second, records-wrote, parties-first, parties-second, parties-wrote}
use Rattle.jsonpieces.proofs.Fronts.{values-records, values-parties, values-wrote}
use Rattle.jsonevents.proofs.values.put_values.Goals as goal

pub put_fields-logged-requires : goal.put_fields-logged-requires
put_fields-logged-requires c = records-first (values-records c.requires)

pub put_fields-context-requires : goal.put_fields-context-requires
put_fields-context-requires c = records-second (values-records c.requires) c.put_fields-logged.ensures (search rules)

pub put_maybe-principal-requires : goal.put_maybe-principal-requires
put_maybe-principal-requires c = parties-first (values-parties c.requires (records-wrote (values-records c.requires) c.put_fields-logged.ensures c.put_fields-context.ensures) (search rules))

pub put_maybe-resource-requires : goal.put_maybe-resource-requires
put_maybe-resource-requires c = parties-second (values-parties c.requires (records-wrote (values-records c.requires) c.put_fields-logged.ensures c.put_fields-context.ensures) (search rules)) c.put_maybe-principal.ensures (search rules)

pub returns : goal.returns
returns c = values-wrote c.requires (records-wrote (values-records c.requires) c.put_fields-logged.ensures c.put_fields-context.ensures) (parties-wrote (values-parties c.requires (records-wrote (values-records c.requires) c.put_fields-logged.ensures c.put_fields-context.ensures) (search rules)) c.put_maybe-principal.ensures c.put_maybe-resource.ensures)
