use Rattle.std.proofs.Common.{rules}
use Rattle.laws.specs.Tests.{growing_none, growing_more, growing_all}
use Rattle.valuecheck.proofs.Parts.{held_in, held-depth}
use Rattle.valuecheck.proofs.block_depth.Goals as goal

pub loop-i-init : goal.loop-i-init
loop-i-init c = search (growing_none, rules)

pub bounds-depths-held : goal.bounds-depths-held
bounds-depths-held c = search (held_in, rules)

pub loop-i-preserved : goal.loop-i-preserved
loop-i-preserved c = search (growing_more, held-depth, rules)

pub returns : goal.returns
returns c = search (growing_all, rules)
