use Rattle.std.proofs.Common.{rules}
use Rattle.jsoncount.proofs.Raised.{point-added}
use Rattle.jsoncount.proofs.tallies.Tally.add_point.Goals as goal

pub returns : goal.returns
returns c = search (point-added, rules)
