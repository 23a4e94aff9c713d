use Rattle.std.proofs.Common.{rules}
use Rattle.meaning.specs.Check.{path_run}
use Rattle.laws.specs.Tests.{passing-none, passing-more, passing-no, passing-all, fails-here, fails-later}
use Rattle.listruns.proofs.Names.{names-rest, names_in}
use Rattle.listruns.proofs.Runs.{run_in, run-whole}
use Rattle.listruns.proofs.path_run.Goals as goal

pub returns-then-not-in_lists : goal.returns-then-not-in_lists
unfolding path_run
returns-then-not-in_lists c = search (fails-here, rules)

pub loop-i-init : goal.loop-i-init
loop-i-init c = (search (passing-none, rules), search (run_in, rules))

pub bounds-paths-at : goal.bounds-paths-at
bounds-paths-at c = search (names_in, rules)

pub returns-then-at-eq0 : goal.returns-then-at-eq0
unfolding path_run
returns-then-at-eq0 c = search (names-rest, rules)

pub returns-then-not-path_name : goal.returns-then-not-path_name
unfolding path_run
returns-then-not-path_name c = search (fails-later, passing-no, rules)

pub loop-i-preserved : goal.loop-i-preserved
loop-i-preserved c = (search (passing-more, rules), search rules)

pub returns : goal.returns
unfolding path_run
returns c = search (run-whole, passing-all, rules)
