use Rattle.std.proofs.Common.{rules}
use Rattle.opening.proofs.Openings.{wants-answerable, wants-condition, wants_scan}
use Rattle.opening.proofs.is_wanted.Goals as goal

pub returns-in-Answerable : goal.returns-in-Answerable
returns-in-Answerable c = search (wants-answerable, rules)

pub returns-in-Condition : goal.returns-in-Condition
returns-in-Condition c = search (wants-condition, rules)

pub returns-in-LooksBack : goal.returns-in-LooksBack
returns-in-LooksBack c = search (wants_scan, rules)
