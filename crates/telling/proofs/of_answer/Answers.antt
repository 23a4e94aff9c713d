use Rattle.std.proofs.Common.{rules}
use Rattle.telling.proofs.Said.{told-given, told-refused}
use Rattle.telling.proofs.of_answer.Goals as goal

pub returns-in-Ok : goal.returns-in-Ok
returns-in-Ok c = search (told-given, rules)

pub returns-in-Err : goal.returns-in-Err
returns-in-Err c = search (told-refused, rules)
