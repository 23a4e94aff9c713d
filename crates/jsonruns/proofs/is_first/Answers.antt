use Rattle.std.proofs.Common.{rules}
use Rattle.jsonruns.proofs.Pairs.{first_fn, first-type}
use Rattle.jsonruns.proofs.is_first.Goals as goal

pub returns-then-extension : goal.returns-then-extension
returns-then-extension c = search (first_fn, rules)

pub returns-else-extension : goal.returns-else-extension
returns-else-extension c = search (first-type, rules)
