use Rattle.std.proofs.Common.{rules}
use Rattle.lookup.proofs.Reach.{bound-so}
use Rattle.lookup.proofs.paths.reached.Goals as goal

pub returns : goal.returns
returns c = search (bound-so, rules)
