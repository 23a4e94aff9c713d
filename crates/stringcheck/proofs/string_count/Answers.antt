-- How many strings there are
use Rattle.std.proofs.Common.{rules}
use Rattle.laws.specs.Bodies.{long}
use Rattle.stringcheck.proofs.string_count.Goals as goal

pub size_of-requires : goal.size_of-requires
size_of-requires c = search (long, rules)
