use Rattle.std.proofs.Common.{rules}
use Rattle.laws.specs.Bodies.{long}
use Rattle.finish.proofs.body_size.Goals as goal

pub size_of-requires : goal.size_of-requires
size_of-requires c = search (long, rules)
