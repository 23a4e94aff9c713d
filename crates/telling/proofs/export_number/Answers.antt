use Rattle.std.proofs.Common.{rules}
use Rattle.telling.proofs.Logs.{number_ambiguous, number-no_export}
use Rattle.telling.proofs.export_number.Goals as goal

pub returns-in-Ambiguous : goal.returns-in-Ambiguous
returns-in-Ambiguous c = search (number_ambiguous, rules)

pub returns-in-Refused : goal.returns-in-Refused
returns-in-Refused c = search (number-no_export, rules)
