use Rattle.std.proofs.Common.{rules}
use Rattle.lookup.proofs.Searching.{failed-none}
use Rattle.lookup.proofs.paths.look_far.Goals as goal

pub look-requires : goal.look-requires
look-requires c = search (failed-none, rules)
