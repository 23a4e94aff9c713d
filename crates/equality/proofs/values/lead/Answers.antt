use Rattle.std.proofs.Common.{rules}
use Rattle.equality.proofs.Joining.{led}
use Rattle.equality.proofs.values.lead.Goals as goal

pub returns : goal.returns
returns c = search (led, rules)
