use Rattle.std.proofs.Common.{rules}
use Rattle.calls.proofs.Unchecked.{passes, carried-unchecked}
use Rattle.evaluator.proofs.Walks.{passed}
use Rattle.calls.proofs.carried.Goals as goal

pub carried-requires : goal.carried-requires
carried-requires c = search (passes, c.in_ok-check.was, rules)

pub returns-in_err-check : goal.returns-in_err-check
returns-in_err-check c = rw (passed _ c.from_residual.ensures) (search (carried-unchecked, c.in_err-check.was, rules))
