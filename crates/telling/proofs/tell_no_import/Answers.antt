use Rattle.std.proofs.Common.{rules}
use Rattle.telling.proofs.Logs.{number-faulty, cells-faulty, number-no_import, cells-no_import}
use Rattle.telling.proofs.tell_no_import.Goals as goal

pub returns-in-Faulty : goal.returns-in-Faulty
returns-in-Faulty c = search (number-faulty, cells-faulty, rules)

pub returns-in-Refused : goal.returns-in-Refused
returns-in-Refused c = search (number-no_import, cells-no_import, rules)
