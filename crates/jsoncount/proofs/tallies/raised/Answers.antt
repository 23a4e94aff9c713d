use Rattle.std.proofs.Common.{rules}
use Rattle.jsoncount.proofs.Raised.{raised-is}
use Rattle.jsoncount.proofs.tallies.raised.Goals as goal

pub returns : goal.returns
returns c = search (raised-is, rules)
