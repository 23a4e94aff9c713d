use Rattle.joining.proofs.Guessing.{keeps-new, keeps-old}
use Rattle.std.proofs.Common.{rules}
use Rattle.joining.proofs.keep_one.Goals as goal

pub returns-then-is_kept : goal.returns-then-is_kept
returns-then-is_kept c = search (keeps-old, rules)

pub returns : goal.returns
returns c = search (keeps-new, rules)
