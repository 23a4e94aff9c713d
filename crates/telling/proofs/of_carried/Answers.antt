use Rattle.std.proofs.Common.{rules}
use Rattle.telling.proofs.Said.{told-carried, told-not-carried}
use Rattle.telling.proofs.of_carried.Goals as goal

pub returns-in-Ok : goal.returns-in-Ok
returns-in-Ok c = search (told-carried, rules)

pub returns-in-Err : goal.returns-in-Err
returns-in-Err c = search (told-not-carried, rules)
