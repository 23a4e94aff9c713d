use Rattle.std.proofs.Common.{rules}
use Rattle.jsonadds.proofs.Integers.{number-here, number-within, minus-told, plain-told}
use Rattle.std.proofs.Common.{rules}
use Rattle.jsonleaf.proofs.flats.integer_of.Goals as goal

pub bounds-line-at : goal.bounds-line-at
bounds-line-at c = search (number-here, rules)

pub magnitude_of-requires : goal.magnitude_of-requires
magnitude_of-requires c = search (number-within, rules)

pub returns-then-line-at-eq45 : goal.returns-then-line-at-eq45
returns-then-line-at-eq45 c = search (minus-told, rules)

pub magnitude_of-requires-2 : goal.magnitude_of-requires-2
magnitude_of-requires-2 c = search (number-here, rules)

pub returns : goal.returns
returns c = search (plain-told, rules)
