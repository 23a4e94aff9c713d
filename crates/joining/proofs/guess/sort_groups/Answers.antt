use Rattle.joining.proofs.Guessing.{beyond}
use Rattle.std.proofs.Common.{rules}
use Rattle.joining.proofs.guess.sort_groups.Goals as goal

pub sort_group-any-requires-clause-beyond : goal.sort_group-any-requires-clause-beyond
sort_group-any-requires-clause-beyond c = search (beyond, rules)
