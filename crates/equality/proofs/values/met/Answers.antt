use Rattle.std.proofs.Common.{rules}
use Rattle.equality.proofs.Joining.{met-is}
use Rattle.equality.proofs.values.met.Goals as goal

pub returns : goal.returns
returns c = search (met-is, rules)
