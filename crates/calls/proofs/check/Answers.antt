use Rattle.std.proofs.Common.{rules}
use Rattle.calls.specs.Theorems.{check-said}
use Rattle.calls.proofs.check.Goals as goal

pub returns : goal.returns
returns c = search (check-said, rules)
