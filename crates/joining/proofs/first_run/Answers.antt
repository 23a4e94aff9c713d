use Rattle.joining.proofs.Runs.{begun-none, begun-run}
use Rattle.std.proofs.Common.{rules}
use Rattle.joining.proofs.first_run.Goals as goal

pub returns-then-all-lt2 : goal.returns-then-all-lt2
returns-then-all-lt2 c = search (begun-none, rules)

pub returns-then-order-wide : goal.returns-then-order-wide
returns-then-order-wide c = search (begun-none, rules)

pub returns : goal.returns
returns c = search (begun-run, rules)
