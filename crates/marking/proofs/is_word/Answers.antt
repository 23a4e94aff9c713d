use Rattle.std.proofs.Common.{rules}
use Rattle.marking.proofs.Rules.{named-as, other-as}
use Rattle.marking.proofs.is_word.Goals as goal

pub returns-then-names : goal.returns-then-names
returns-then-names c = search (named-as, rules)

pub returns-else-names : goal.returns-else-names
returns-else-names c = search (other-as, rules)
