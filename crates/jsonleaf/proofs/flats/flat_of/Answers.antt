use Rattle.std.proofs.Common.{rules}
use Rattle.jsonadds.proofs.Words.{flat-at, null_told, true-told, false-told, int-good, int-told}
use Rattle.jsonleaf.proofs.flats.flat_of.Goals as goal

pub bounds-line-at : goal.bounds-line-at
bounds-line-at c = search (flat-at, rules)

pub returns-in-110 : goal.returns-in-110
returns-in-110 c = search (null_told, rules)

pub returns-in-116 : goal.returns-in-116
returns-in-116 c = search (true-told, rules)

pub returns-in-102 : goal.returns-in-102
returns-in-102 c = search (false-told, rules)

pub integer_of-z-requires : goal.integer_of-z-requires
integer_of-z-requires c = search (int-good, rules)

pub returns-in_default : goal.returns-in_default
returns-in_default c = search (int-told, rules)
