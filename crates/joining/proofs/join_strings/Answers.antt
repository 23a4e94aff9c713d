use Rattle.joining.proofs.Guessing.{took_all, took_first}
use Rattle.std.proofs.Common.{rules}
use Rattle.joining.proofs.join_strings.Goals as goal

pub join_from-requires : goal.join_from-requires
join_from-requires c = search (took_first, rules)

pub returns-in-All : goal.returns-in-All
returns-in-All c = search (took_all, rules)
