use Rattle.std.proofs.Common.{rules}
use Rattle.lookup.proofs.Searching.{known_is}
use Rattle.lookup.proofs.paths.known.Goals as goal

pub returns : goal.returns
returns c = search (known_is, rules)
