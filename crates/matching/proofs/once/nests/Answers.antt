use Rattle.std.proofs.Common.{rules}
use Rattle.laws.specs.Checked.{checked-bodies}
use Rattle.matching.proofs.once.nests.Goals as goal

pub node_word-requires : goal.node_word-requires
node_word-requires c = search (checked-bodies, rules)

pub node_word-requires-else-node_word-eq-ARITHMETIC : goal.node_word-requires-else-node_word-eq-ARITHMETIC
node_word-requires-else-node_word-eq-ARITHMETIC c = search (checked-bodies, rules)
