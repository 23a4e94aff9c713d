use Rattle.std.proofs.Common.{rules}
use Rattle.jsonfields.proofs.Events.{place-signed, place-begun, place-good, place_after, place-again, place-less, place-told}
use Rattle.jsonfields.proofs.places.event_fields.Goals as goal

pub first_part-part-requires : goal.first_part-part-requires
first_part-part-requires c = search (place-signed, rules)

pub loop-part-init : goal.loop-part-init
loop-part-init c = search (place-begun, rules)

pub entry_of-m-requires : goal.entry_of-m-requires
entry_of-m-requires c = search (place-good, rules)

pub part_after-part-requires : goal.part_after-part-requires
part_after-part-requires c = search (place_after, rules)

pub loop-part-smaller : goal.loop-part-smaller
loop-part-smaller c = search (place-less, rules)

pub loop-part-preserved : goal.loop-part-preserved
loop-part-preserved c = search (place-again, rules)

pub returns : goal.returns
returns c = search (place-told, rules)
