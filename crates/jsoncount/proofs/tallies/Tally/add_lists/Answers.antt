use Rattle.std.proofs.Common.{rules}
use Rattle.jsoncount.proofs.Raised.{lists-added}
use Rattle.jsoncount.proofs.tallies.Tally.add_lists.Goals as goal

pub returns : goal.returns
returns c = search (lists-added, rules)
