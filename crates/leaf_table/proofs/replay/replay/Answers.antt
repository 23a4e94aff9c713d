use Rattle.std.proofs.Common.{rules}
use Rattle.laws.specs.Bodies.{long}
use Rattle.laws.specs.Checked.{checked-bodies}
use Rattle.leaf_table.proofs.replay.replay.Goals as goal

pub size_of-requires : goal.size_of-requires
size_of-requires c = search (long, checked-bodies, rules)
