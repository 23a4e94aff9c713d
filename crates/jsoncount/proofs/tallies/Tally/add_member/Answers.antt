use Rattle.std.proofs.Common.{rules}
use Rattle.jsoncount.proofs.Raised.{member-added}
use Rattle.jsoncount.proofs.tallies.Tally.add_member.Goals as goal

pub returns : goal.returns
returns c = search (member-added, rules)
