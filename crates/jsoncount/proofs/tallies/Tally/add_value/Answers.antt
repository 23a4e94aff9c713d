use Rattle.std.proofs.Common.{rules}
use Rattle.jsoncount.proofs.Raised.{value-added}
use Rattle.jsoncount.proofs.tallies.Tally.add_value.Goals as goal

pub returns : goal.returns
returns c = search (value-added, rules)
