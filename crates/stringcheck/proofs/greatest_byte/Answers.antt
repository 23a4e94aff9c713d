use Rattle.std.proofs.Common.{rules}
use Rattle.laws.specs.Tests.{growing_none, growing_more, growing_all}
use Rattle.stringcheck.proofs.greatest_byte.Goals as goal

pub loop-b-init : goal.loop-b-init
loop-b-init c = search (growing_none, rules)

pub loop-b-preserved : goal.loop-b-preserved
loop-b-preserved c = search (growing_more, rules)

pub returns : goal.returns
returns c = search (growing_all, rules)
