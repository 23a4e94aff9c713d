use Rattle.std.proofs.Common.{rules}
use Rattle.telling.proofs.Said.{told-count, told-no-rows}
use Rattle.telling.proofs.of_rows.Goals as goal

pub returns-in-Ok : goal.returns-in-Ok
returns-in-Ok c = search (told-count, rules)

pub returns-in-Err : goal.returns-in-Err
returns-in-Err c = search (told-no-rows, rules)
