use Rattle.std.proofs.Common.{rules}
use Rattle.jsoncount.proofs.Raised.{string-added}
use Rattle.jsoncount.proofs.tallies.Tally.add_string.Goals as goal

pub returns : goal.returns
returns c = search (string-added, rules)
