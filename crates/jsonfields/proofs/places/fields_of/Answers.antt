use Rattle.std.proofs.Common.{rules}
use Rattle.jsonfields.proofs.Events.{line-event, line-told}
use Rattle.jsonfields.proofs.places.fields_of.Goals as goal

pub event_fields-requires : goal.event_fields-requires
event_fields-requires c = search (line-event, rules)

pub returns : goal.returns
returns c = search (line-told, rules)
