use Rattle.std.proofs.Common.{rules}
use Rattle.jsonfields.proofs.Members.{place-new, place-old}
use Rattle.jsonfields.proofs.places.first_place.Goals as goal

pub returns-then-old-eq0 : goal.returns-then-old-eq0
returns-then-old-eq0 c = search (place-new, rules)

pub returns-else-old-eq0 : goal.returns-else-old-eq0
returns-else-old-eq0 c = search (place-old, rules)
