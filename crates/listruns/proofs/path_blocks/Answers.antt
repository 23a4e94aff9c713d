use Rattle.std.proofs.Common.{rules, arith, ◌≡◌, ◌-◌}
use Rattle.std.proofs.lemmas.Bool.Decides.{nat_tests}
use Rattle.meaning.specs.Tests.{choose}
use Rattle.listruns.proofs.Names.{reaching_none, reaching_more, reaching_in, reaching_all}
use Rattle.listruns.proofs.path_blocks.Goals as goal

pub loop-i-init : goal.loop-i-init
loop-i-init c = search (reaching_none, rules)

pub bounds-paths-i : goal.bounds-paths-i
bounds-paths-i c = search (reaching_in, rules)

pub loop-i-preserved : goal.loop-i-preserved
unfolding choose
loop-i-preserved c =
    let e : c.if-not-path_name.end ≡ choose c.path_name.result c.loop-i.end (c.loop-i.i - 1) = grind (arith, nat_tests) in
    search (reaching_more, rules)

pub returns : goal.returns
returns c = search (reaching_all, rules)
