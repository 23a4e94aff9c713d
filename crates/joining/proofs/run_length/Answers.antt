use Rattle.joining.proofs.Runs.{run-one, run_more}
use Rattle.std.proofs.Common.{rules}
use Rattle.joining.proofs.run_length.Goals as goal

pub loop-k-init : goal.loop-k-init
loop-k-init c = search (run-one, rules)

pub loop-k-preserved : goal.loop-k-preserved
loop-k-preserved c = search (run_more, rules)
