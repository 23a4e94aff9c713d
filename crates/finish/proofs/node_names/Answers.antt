use Rattle.std.proofs.Common.{rules}
use Rattle.finish.proofs.Names.{node-within, node-without}
use Rattle.finish.proofs.node_names.Goals as goal

pub returns-then-within : goal.returns-then-within
returns-then-within c = search (node-within, rules)

pub returns-else-within : goal.returns-else-within
returns-else-within c = search (node-without, rules)
