use Rattle.std.proofs.Common.{rules}
use Rattle.jsonadds.proofs.Integers.{magnitude-none, magnitude-told}
use Rattle.std.proofs.Common.{rules}
use Rattle.jsonleaf.proofs.flats.magnitude_of.Goals as goal

pub returns-in-Err : goal.returns-in-Err
returns-in-Err c = search (magnitude-none, rules)

pub returns-in-Ok : goal.returns-in-Ok
returns-in-Ok c = search (magnitude-told, rules)
