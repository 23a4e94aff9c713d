use Rattle.std.proofs.Common.{rules}
use Rattle.casewrite.proofs.Rules.{strings-against, case-other, case-passes, case-nodes}
use Rattle.casewrite.proofs.against_case.Goals as goal

pub returns-then-not-strings_in_text : goal.returns-then-not-strings_in_text
returns-then-not-strings_in_text c = search (strings-against, rules)

pub returns-then-number-lt6 : goal.returns-then-number-lt6
returns-then-number-lt6 c = search (case-other, rules)

pub returns-in-Ok : goal.returns-in-Ok
returns-in-Ok c = search (case-passes, rules)

pub returns-else-number-lt6 : goal.returns-else-number-lt6
returns-else-number-lt6 c = search (case-nodes, rules)
