use Rattle.std.proofs.Common.{rules}
use Rattle.telling.proofs.Logs.{number-imported, cells-imported, number-import_error, cells-import_error}
use Rattle.telling.proofs.tell_imported.Goals as goal

pub returns-in-Ok : goal.returns-in-Ok
returns-in-Ok c = search (number-imported, cells-imported, rules)

pub returns-in-Err : goal.returns-in-Err
returns-in-Err c = search (number-import_error, cells-import_error, rules)
