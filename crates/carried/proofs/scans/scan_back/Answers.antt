use Rattle.std.proofs.Common.{rules}
use Rattle.carried.proofs.Downs.{back-previous, back_stop, back-down}
use Rattle.evaluator.proofs.Walks.{passed}
use Rattle.carried.proofs.scans.scan_back.Goals as goal

pub returns-in-Previous : goal.returns-in-Previous
returns-in-Previous c = search (back-previous, c.in_ok-end.was, rules)

pub returns-in_err-end : goal.returns-in_err-end
returns-in_err-end c = rw (passed _ c.from_residual.ensures) (search (back_stop, c.in_err-end.was, rules))

pub returns : goal.returns
returns c = back-down c.args.look c.in_default.not-Previous (search rules)
