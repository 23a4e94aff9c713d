use Rattle.std.proofs.Common.{rules}
use Rattle.telling.proofs.Written.{number-wrote, cell-wrote, number-refused, cell-refused}
use Rattle.telling.proofs.tell_written.Goals as goal

pub returns-in-Ok : goal.returns-in-Ok
returns-in-Ok c = search (number-wrote, cell-wrote, rules)

pub returns-in-Err : goal.returns-in-Err
returns-in-Err c = search (number-refused, cell-refused, rules)
