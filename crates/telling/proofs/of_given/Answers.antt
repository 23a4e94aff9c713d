use Rattle.std.proofs.Common.{rules}
use Rattle.telling.proofs.Said.{told-verdict, told-number}
use Rattle.telling.proofs.of_given.Goals as goal

pub returns-in-Verdict : goal.returns-in-Verdict
returns-in-Verdict c = search (told-verdict, rules)

pub returns-in-Number : goal.returns-in-Number
returns-in-Number c = search (told-number, rules)
