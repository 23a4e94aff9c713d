use Rattle.std.proofs.Common.{rules}
use Rattle.equality.proofs.Joining.{joined-none}
use Rattle.equality.proofs.values.nested_eq.Goals as goal

pub deep_eq-requires : goal.deep_eq-requires
deep_eq-requires c = search (joined-none, rules)
