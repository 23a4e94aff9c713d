use Rattle.std.proofs.Common.{rules}
use Rattle.matching.proofs.Leaves.{leaf-variable, leaf-fixed}
use Rattle.matching.proofs.sides.leaf_of.Goals as goal

pub returns-in-Variable : goal.returns-in-Variable
returns-in-Variable c = search (leaf-variable, rules)

pub returns-in_default : goal.returns-in_default
returns-in_default c = search (leaf-fixed, rules)
