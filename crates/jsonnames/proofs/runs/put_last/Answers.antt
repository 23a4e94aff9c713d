use Rattle.std.proofs.Common.{rules}
use Rattle.jsonnames.proofs.Stores.{rises, put-there, put-within, put_carry, put-carried, put-grown}
use Rattle.jsonnames.proofs.runs.put_last.Goals as goal

pub find-requires : goal.find-requires
find-requires c = search (rises, rules)

pub insert-requires : goal.insert-requires
insert-requires c = search (put-within, rules)

pub carry-requires : goal.carry-requires
carry-requires c = search (put_carry, rules)

pub returns-in-Ok : goal.returns-in-Ok
returns-in-Ok c = search (put-there, rules)

pub returns-then-end-edge-eq15 : goal.returns-then-end-edge-eq15
returns-then-end-edge-eq15 c = search (put-carried, rules)

pub returns-else-end-edge-eq15 : goal.returns-else-end-edge-eq15
returns-else-end-edge-eq15 c = search (put-grown, rules)
