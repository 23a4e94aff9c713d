use Rattle.std.proofs.Common.{rules}
use Rattle.jsonends.proofs.Ends.{value-below, text-good, text-ends, bracket-opened, bracket-shut, flat_good, flat-ends}
use Rattle.jsonends.proofs.value_end.Goals as goal

pub bounds-line-at : goal.bounds-line-at
bounds-line-at c = search (value-below, rules)

pub string_end-requires : goal.string_end-requires
string_end-requires c = search (text-good, rules)

pub returns-in-34 : goal.returns-in-34
returns-in-34 c = search (text-ends, rules)

pub bracket_end-requires : goal.bracket_end-requires
bracket_end-requires c = search (bracket-opened, rules)

pub returns-in-91 : goal.returns-in-91
returns-in-91 c = search (bracket-shut, rules)

pub scalar_end-requires : goal.scalar_end-requires
scalar_end-requires c = search (flat_good, rules)

pub returns-in_default : goal.returns-in_default
returns-in_default c = search (flat-ends, rules)
