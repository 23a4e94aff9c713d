use Rattle.joining.proofs.Guessing.{keeps-new, keeps-not, keeps-last}
use Rattle.std.proofs.Common.{rules}
use Rattle.joining.proofs.keep_next.Goals as goal

pub returns-then-m-eq0 : goal.returns-then-m-eq0
returns-then-m-eq0 c = search (keeps-new, rules)

pub returns-then-is_before : goal.returns-then-is_before
returns-then-is_before c = search (keeps-new, rules)

pub returns-then-is_before-2 : goal.returns-then-is_before-2
returns-then-is_before-2 c = search (keeps-not, rules)

pub returns : goal.returns
returns c = search (keeps-last, rules)
