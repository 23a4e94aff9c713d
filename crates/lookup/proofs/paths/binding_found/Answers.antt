use Rattle.std.proofs.Common.{rules}
use Rattle.lookup.proofs.Reach.{bound-found, bound-none}
use Rattle.lookup.proofs.paths.binding_found.Goals as goal

pub returns-in-Some : goal.returns-in-Some
returns-in-Some c = search (bound-found, rules)

pub returns-in-None : goal.returns-in-None
returns-in-None c = bound-none _ _ 0 0 c.in-None.is
