use Rattle.std.proofs.Common.{rules}
use Rattle.calls.proofs.Unchecked.{passes, rows-unchecked}
use Rattle.evaluator.proofs.Walks.{passed}
use Rattle.calls.proofs.rows.Goals as goal

pub rows-requires : goal.rows-requires
rows-requires c = search (passes, c.in_ok-check.was, rules)

pub returns-in_err-check : goal.returns-in_err-check
returns-in_err-check c = rw (passed _ c.from_residual.ensures) (search (rows-unchecked, c.in_err-check.was, rules))
