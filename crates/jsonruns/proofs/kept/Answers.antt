use Rattle.std.proofs.Common.{rules}
use Rattle.jsonruns.proofs.Pairs.{kept_new, kept-other}
use Rattle.jsonruns.proofs.kept.Goals as goal

pub returns-then-is : goal.returns-then-is
returns-then-is c = search (kept_new, rules)

pub returns-else-is : goal.returns-else-is
returns-else-is c = search (kept-other, rules)
