use Rattle.std.proofs.Common.{rules}
use Rattle.laws.specs.Tests.{passing-none, passing-no, passing-more, passing-all}
use Rattle.marking.proofs.nodes_marked.Goals as goal

pub loop-n-init : goal.loop-n-init
loop-n-init c = search (passing-none, rules)

pub returns-then-not-node_marks : goal.returns-then-not-node_marks
returns-then-not-node_marks c = search (passing-no, rules)

pub loop-n-preserved : goal.loop-n-preserved
loop-n-preserved c = search (passing-more, rules)

pub returns : goal.returns
returns c = search (passing-all, rules)
