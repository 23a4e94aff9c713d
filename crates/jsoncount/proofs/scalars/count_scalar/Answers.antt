use Rattle.std.proofs.Common.{rules}
use Rattle.jsoncount.proofs.Flat.{flat-below, text-good, text-counted, flat-counted}
use Rattle.jsonruns.proofs.Signs.{good-end}
use Rattle.jsoncount.proofs.scalars.count_scalar.Goals as goal

pub bounds-line-at : goal.bounds-line-at
bounds-line-at c = search (flat-below, rules)

pub add_string-end-requires : goal.add_string-end-requires
add_string-end-requires c = search (text-good, rules)

pub returns-then-line-at-eq34 : goal.returns-then-line-at-eq34
returns-then-line-at-eq34 c = search (text-counted, rules)

pub returns : goal.returns
returns c = search (flat-counted, good-end, rules)
