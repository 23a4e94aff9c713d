use Rattle.std.proofs.Common.{rules}
use Rattle.laws.specs.Tests.{passing-none, passing-no, passing-more, passing-all}
use Rattle.marking.proofs.points_marked.Goals as goal

pub loop-p-init : goal.loop-p-init
loop-p-init c = search (passing-none, rules)

pub returns-then-not-point_marks : goal.returns-then-not-point_marks
returns-then-not-point_marks c = search (passing-no, rules)

pub loop-p-preserved : goal.loop-p-preserved
loop-p-preserved c = search (passing-more, rules)

pub returns : goal.returns
returns c = search (passing-all, rules)
