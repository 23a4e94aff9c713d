use Rattle.std.proofs.Common.{rules}
use Rattle.calls.proofs.Given.{under_none, under_more, under-not, under-are}
use Rattle.calls.proofs.checked.all_under.Goals as goal

pub loop-x-init : goal.loop-x-init
loop-x-init c = search (under_none, rules)

pub returns-then-vars-x : goal.returns-then-vars-x
returns-then-vars-x c = search (under-not, rules)

pub loop-x-preserved : goal.loop-x-preserved
loop-x-preserved c = search (under_more, rules)

pub returns : goal.returns
returns c = search (under-are, rules)
