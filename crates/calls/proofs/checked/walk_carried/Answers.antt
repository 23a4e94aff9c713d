use Rattle.std.proofs.Common.{rules}
use Rattle.calls.proofs.CarriedAsked.{scan_given, scan_refused}
use Rattle.evaluator.proofs.Walks.{passed}
use Rattle.calls.proofs.checked.walk_carried.Goals as goal

pub returns : goal.returns
returns c = search (scan_given, c.in_ok-found.was, rules)

pub returns-in_err-found : goal.returns-in_err-found
returns-in_err-found c = rw (passed _ c.from_residual.ensures) (search (scan_refused, c.in_err-found.was, rules))
