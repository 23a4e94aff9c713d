use Rattle.std.proofs.Common.{rules}
use Rattle.calls.proofs.Asked.{few-cells, part-long, point_in_lem, ready, clear_in}
use Rattle.calls.proofs.CarriedAsked.{carried-refused, carried-told}
use Rattle.evaluator.proofs.Walks.{passed}
use Rattle.calls.proofs.checked.carried.Goals as goal

pub slice_bounds-part-end : goal.slice_bounds-part-end
slice_bounds-part-end c = search (few-cells, c.in_ok-opening.was, rules)

pub walk_carried-said-requires-clause-ready : goal.walk_carried-said-requires-clause-ready
walk_carried-said-requires-clause-ready c = search (ready, c.in_ok-opening.was, rules)

pub walk_carried-said-requires-clause-asked_bound : goal.walk_carried-said-requires-clause-asked_bound
walk_carried-said-requires-clause-asked_bound c = search (point_in_lem, c.in_ok-opening.was, rules)

pub clear-requires : goal.clear-requires
clear-requires c = search (clear_in, c.in_ok-opening.was, rules)

pub returns-in_err-opening : goal.returns-in_err-opening
returns-in_err-opening c = rw (passed _ c.from_residual.ensures) (search (carried-refused, c.in_err-opening.was, rules))

pub returns : goal.returns
returns c = search (carried-told, c.in_ok-opening.was, rules)
