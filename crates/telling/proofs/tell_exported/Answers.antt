use Rattle.std.proofs.Common.{rules}
use Rattle.telling.proofs.Logs.{number-exported, cell-exported, number-export_error, cell-export_error}
use Rattle.telling.proofs.tell_exported.Goals as goal

pub returns-in-Ok : goal.returns-in-Ok
returns-in-Ok c = search (number-exported, cell-exported, rules)

pub returns-in-Err : goal.returns-in-Err
returns-in-Err c = search (number-export_error, cell-export_error, rules)
