use Rattle.std.proofs.Common.{rules}
use Rattle.matching.proofs.Free.{known-none}
use Rattle.matching.proofs.once.settle_once.Goals as goal

pub settle_sides-requires : goal.settle_sides-requires
settle_sides-requires c = search (known-none, rules)
