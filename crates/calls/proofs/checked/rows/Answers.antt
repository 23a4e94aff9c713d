use Rattle.std.proofs.Common.{rules}
use Rattle.calls.proofs.Asked.{few-cells, part-long, point_in_lem, ready, clear_in}
use Rattle.calls.proofs.RowsAsked.{rows-refused, rows_told}
use Rattle.evaluator.proofs.Walks.{passed}
use Rattle.calls.proofs.checked.rows.Goals as goal

pub slice_bounds-part-end : goal.slice_bounds-part-end
slice_bounds-part-end c = search (few-cells, c.in_ok-opening.was, rules)

pub walk_rows-said-requires-clause-ready : goal.walk_rows-said-requires-clause-ready
walk_rows-said-requires-clause-ready c = search (ready, c.in_ok-opening.was, rules)

pub walk_rows-said-requires-clause-asked_bound : goal.walk_rows-said-requires-clause-asked_bound
walk_rows-said-requires-clause-asked_bound c = search (point_in_lem, c.in_ok-opening.was, rules)

pub clear-requires : goal.clear-requires
clear-requires c = search (clear_in, c.in_ok-opening.was, rules)

pub returns-in_err-opening : goal.returns-in_err-opening
returns-in_err-opening c = rw (passed _ c.from_residual.ensures) (search (rows-refused, c.in_err-opening.was, rules))

pub returns : goal.returns
returns c = search (rows_told, c.in_ok-opening.was, rules)
