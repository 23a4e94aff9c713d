use Rattle.std.proofs.Common.{rules}
use Rattle.jsonmarks.proofs.Keeps.{owner-none, owner-is}
use Rattle.jsonmarks.proofs.owner_of.Goals as goal

pub returns : goal.returns
returns c = search (owner-is, rules)
