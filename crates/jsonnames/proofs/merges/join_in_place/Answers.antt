use Rattle.std.proofs.Common.{rules}
use Rattle.jsonnames.proofs.Grows.{put-start, put-cell, put-place, put-there, put-within, put_on, put-done}
use Rattle.jsonnames.proofs.merges.join_in_place.Goals as goal

pub loop-j-init : goal.loop-j-init
loop-j-init c = search (put-start, rules)

pub bounds-names-j : goal.bounds-names-j
bounds-names-j c = search (put-cell, rules)

pub find-requires : goal.find-requires
find-requires c = search (put-place, rules)

pub returns-in_default : goal.returns-in_default
returns-in_default c = search (put-there, rules)

pub insert-requires : goal.insert-requires
insert-requires c = search (put-within, put-cell, rules)

pub loop-j-preserved : goal.loop-j-preserved
loop-j-preserved c = search (put_on, rules)

pub returns : goal.returns
returns c = search (put-done, rules)
